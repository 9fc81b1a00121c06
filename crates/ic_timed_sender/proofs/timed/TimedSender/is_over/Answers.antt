use Rattle.std.proofs.Common.{List, subst}
use Rattle.std.specs.Prelude.{IsTrue, ◌↔◌}
use Rattle.ic_law.specs.declared.history.Entry.{Entry}
use Rattle.ic_sender.specs.Standing.{IsOverIn}
use Rattle.ic_sender.proofs.Knowing.{over_there, over_here}
use Rattle.ic_timed_sender.specs.Timed.{TimedState}
use Rattle.ic_timed_sender.specs.Standing.{Stands}
use Rattle.ic_timed_sender.proofs.timed.TimedSender.is_over.Goals as goal

pub returns-clause-tells : goal.returns-clause-tells
returns-clause-tells c =
    subst (λ (o : TimedState). (h : List Entry) → Stands o h → IsTrue c.is_over.result ↔ IsOverIn o.sending.end.key h) c.self.view_is
    (λ h old. (λ over. over_there c.self.inside.sender c.self.inside.waits.held h old.sends (c.is_over.ensures.0 over), λ over. c.is_over.ensures.1 (over_here c.self.inside.sender c.self.inside.waits.held h old.sends over)))
