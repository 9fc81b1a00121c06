use Rattle.std.proofs.Common.{◌≡◌, ◌++◌, take}
use Rattle.std.specs.List.{AllByRecursion, flat_map}
use Rattle.ic_timed_sender.specs.Timed.{queries_due}
use Rattle.ic_hub.specs.Ticking.{MayAsk}
use Rattle.ic_hub.proofs.tick.queries.Given as goal

abbrev pub invariant-loop-sender : goal.invariant-loop-sender
invariant-loop-sender l = record {
  datagrams : l.datagrams ≡ l.fn.datagrams ++ flat_map queries_due (take l.sender-index l.senders);
  may : AllByRecursion MayAsk (take l.sender-index l.senders);
}
