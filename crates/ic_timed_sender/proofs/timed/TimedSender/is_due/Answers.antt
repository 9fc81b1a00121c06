use Rattle.std.proofs.Common.{ap, sym, ◌∙◌, subst}
use Rattle.ic_expire.specs.Queue.{has_due}
use Rattle.ic_timed_sender.specs.Standing.{IsQuiet}
use Rattle.ic_timed_sender.proofs.Spending.{quiet}
use Rattle.ic_timed_sender.proofs.timed.TimedSender.is_due.Goals as goal

pub returns-clause-quiet : goal.returns-clause-quiet
returns-clause-quiet c none =
    let s = c.self.inside in
    subst IsQuiet c.self.view_is (quiet s.sender s.waits s.tick s.rows c.self.invariant c.bounded.ensures.queue (sym (c.is_due.ensures.value ∙ ap (λ n. has_due n s.waits.held) c.tick_behind.ensures) ∙ none))
