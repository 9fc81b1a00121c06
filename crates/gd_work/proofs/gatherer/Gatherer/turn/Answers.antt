use Rattle.std.proofs.Common.{◌≡◌, refl, sym, ◌∙◌, subst}
use Rattle.gd_work.specs.Taking.{Gathers}
use Rattle.gd_work.proofs.Sent.{is_going}
use Rattle.gd_work.proofs.Taken.{lets_on}
use Rattle.gd_work.proofs.gatherer.Gatherer.turn.Goals as goal

pub returns-clause-gathers : goal.returns-clause-gathers
returns-clause-gathers g c =
    let log = g.P.Port.log c.args.port.now in
    λ h.
    lets_on c.self.inside.motion (g.P.Port.keys c.args.port.now) c.self.inside.joiners.items c.take-answer.new.joiners.items c.self.inside.rows c.take-answer.new.rows log (g.P.Port.log c.take-answer.new.port)
    c.self.inside.course c.behind-self-inside.result c.take-answer.result (is_going c.self.inside.course (sym c.settled.ensures ∙ c.in_default.is)) c.behind-self-inside.ensures c.take-answer.ensures.takes
    (subst (λ s. Gathers s log) (sym c.self.view_is) h)
