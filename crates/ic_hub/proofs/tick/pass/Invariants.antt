use Rattle.ic_timed_sender.specs.Timed.{ticking}
use Rattle.ic_hub.specs.Ticking.{Passes, plan_for}
use Rattle.ic_hub.proofs.Ticking.{Passed, AreLeft}
use Rattle.ic_hub.proofs.tick.pass.Given as goal

abbrev pub invariant-loop-i : goal.invariant-loop-i
invariant-loop-i l = record {
  passed : Passed ticking Passes l.i l.fn.senders l.senders;
  left : AreLeft plan_for l.fn.senders l.i l.plan l.rest;
}
