use Rattle.std.proofs.Common.{◌≡◌, List, sym, ◌∙◌, subst}
use Rattle.ic_law.specs.declared.history.Entry.{Entry}
use Rattle.ic_law.specs.History.{sent_upto}
use Rattle.ic_sender.proofs.Knowing.{sent_is}
use Rattle.ic_timed_sender.specs.Timed.{TimedState}
use Rattle.ic_timed_sender.specs.Standing.{Stands}
use Rattle.ic_timed_sender.proofs.timed.TimedSender.sent.Goals as goal

pub returns-clause-tells : goal.returns-clause-tells
returns-clause-tells c =
    subst (λ (o : TimedState). (h : List Entry) → Stands o h → sent_upto o.sending.end.key h ≡ c.sent.result) c.self.view_is
    (λ h old. sent_is c.self.inside.sender c.self.inside.waits.held h old.sends.reflects ∙ sym c.sent.ensures)
