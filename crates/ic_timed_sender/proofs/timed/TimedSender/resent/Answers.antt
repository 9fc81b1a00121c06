use Rattle.std.proofs.Common.{◌≡◌, ◌-◌, ◌^◌, List, length, min, subst, arith}
use Rattle.ic_law.specs.declared.history.Entry.{Entry}
use Rattle.ic_law.specs.History.{rows_emitted_of, sent_upto}
use Rattle.ic_sender.proofs.Knowing.{sent_is}
use Rattle.ic_timed_sender.specs.Timed.{TimedState}
use Rattle.ic_timed_sender.specs.Standing.{Stands}
use Rattle.ic_timed_sender.proofs.timed.TimedSender.resent.Goals as goal

pub returns-clause-tells : goal.returns-clause-tells
returns-clause-tells c =
    subst (λ (o : TimedState). (h : List Entry) → Stands o h → c.resent.result ≡ min (length (rows_emitted_of o.sending.end.key h) - sent_upto o.sending.end.key h) (2 ^ 128 - 1)) c.self.view_is
    (λ h old.
    let sent = sent_is c.self.inside.sender c.self.inside.waits.held h old.sends.reflects in
    omega (arith, c.resent.ensures, sent, old.resent.emitted, old.resent.told))
