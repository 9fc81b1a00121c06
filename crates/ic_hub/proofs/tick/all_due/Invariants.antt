use Rattle.std.proofs.Common.{◌≡◌, ◌++◌, take}
use Rattle.std.specs.List.{AllByRecursion, flat_map}
use Rattle.ic_hub.specs.Ticking.{MayTick, plan_of, emission_of}
use Rattle.ic_hub.proofs.tick.all_due.Given as goal

abbrev pub invariant-loop-query : goal.invariant-loop-query
invariant-loop-query l = record {
  plan : l.plan.items ≡ flat_map plan_of (take l.query-index l.live);
  datagrams : l.datagrams ≡ l.fn.datagrams ++ flat_map emission_of (take l.query-index l.live);
  may : AllByRecursion MayTick (take l.query-index l.live);
}
