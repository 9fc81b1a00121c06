use Rattle.std.proofs.Common.{ap, sym, ◌∙◌}
use Rattle.ic_sender.specs.Sending.{Sending}
use Rattle.ic_sender.proofs.sender.Sender.nak.Goals as goal

pub hear-requires-clause-alone : goal.hear-requires-clause-alone
hear-requires-clause-alone c = c.requires.alone (sym (ap (λ (x : Sending). x.stopped) c.self.view_is) ∙ c.if-self.false)

pub hear-requires-clause-room : goal.hear-requires-clause-room
hear-requires-clause-room c = c.requires.room (sym (ap (λ (x : Sending). x.stopped) c.self.view_is) ∙ c.if-self.false)
