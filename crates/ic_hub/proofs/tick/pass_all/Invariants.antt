use Rattle.std.specs.List.{AllByRecursion}
use Rattle.ic_hub.specs.Hubbing.{Living}
use Rattle.ic_hub.specs.Ticking.{Passes, plan_of, ticked_query}
use Rattle.ic_hub.proofs.Ticking.{Passed, AreLeft}
use Rattle.ic_hub.proofs.tick.pass_all.Given as goal

abbrev pub invariant-loop-i : goal.invariant-loop-i
invariant-loop-i l = record {
  passed : Passed ticked_query (λ (q : Living). AllByRecursion Passes q.senders) l.i l.fn.live l.live;
  left : AreLeft plan_of l.fn.live l.i l.plan l.rest;
}
