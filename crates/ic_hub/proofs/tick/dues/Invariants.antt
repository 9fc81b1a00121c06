use Rattle.std.proofs.Common.{◌≡◌, ◌++◌, take}
use Rattle.std.specs.List.{AllByRecursion, flat_map}
use Rattle.ic_timed_sender.specs.Timed.{datagrams_due}
use Rattle.ic_hub.specs.Ticking.{MayResend, plan_for}
use Rattle.ic_hub.proofs.tick.dues.Given as goal

abbrev pub invariant-loop-sender : goal.invariant-loop-sender
invariant-loop-sender l = record {
  plan : l.plan.items ≡ l.fn.plan.items ++ flat_map plan_for (take l.sender-index l.senders);
  datagrams : l.datagrams ≡ l.fn.datagrams ++ flat_map datagrams_due (take l.sender-index l.senders);
  may : AllByRecursion MayResend (take l.sender-index l.senders);
}
