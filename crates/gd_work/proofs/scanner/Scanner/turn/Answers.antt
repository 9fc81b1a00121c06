use Rattle.std.proofs.Common.{◌≡◌, refl, sym, ◌∙◌, subst}
use Rattle.gd_work.specs.Sending.{Scans}
use Rattle.gd_work.proofs.Sent.{seen, is_going, scans_on}
use Rattle.gd_work.proofs.scanner.Scanner.turn.Goals as goal

pub returns-clause-scans : goal.returns-clause-scans
returns-clause-scans g c =
    let log = g.P.Port.log c.args.port.now in
    let made = c.put_next-answer.ensures in
    let old = seen c.self.inside.motion c.self.inside.to c.self.inside.cutter c.self.inside.course in
    let new = seen c.self.inside.motion c.self.inside.to c.put_next-answer.new.self c.behind-self-inside.result in
    λ h.
    scans_on c.args.rows.now old new (g.P.Port.keys c.args.port.now) log (g.P.Port.log c.put_next-answer.new.port) c.put_next-answer.result
    (is_going c.self.inside.course (sym c.settled.ensures ∙ c.in_default.is)) (record { motion = refl; to = refl; packet = made.packet }) c.behind-self-inside.ensures made.puts made.rows
    (subst (λ s. Scans c.args.rows.now s log) (sym c.self.view_is) h)
