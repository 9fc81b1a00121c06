use Rattle.std.proofs.Common.{◌≡◌, sym, subst}
use Rattle.ic_motion.specs.Hearing.{Listener, senders_of, Hears}
use Rattle.ic_motion.specs.Halting.{Halted}
use Rattle.ic_motion.proofs.Halted.{halted}
use Rattle.ic_motion.proofs.Senders.{halt_senders}
use Rattle.ic_motion.proofs.motion_in.MotionIn.halt_all.Goals as goal

pub returns-clause-senders : goal.returns-clause-senders
returns-clause-senders g c =
    let s = c.self.inside in
    let new = c.halt_next-answer.new.tracks.items in
    subst (λ (m : Listener). senders_of new ≡ senders_of m.lanes) c.self.view_is
    (halt_senders s.end.motion s.tracks.items new (g.P.Port.log c.args.port.now) (g.P.Port.log c.halt_next-answer.new.port) c.halt_next-answer.result c.halt_next-answer.ensures.halting)

pub returns-clause-halts : goal.returns-clause-halts
returns-clause-halts g c =
    λ steps given none calls h.
    let s = c.self.inside in
    let now = g.P.Port.log c.halt_next-answer.new.port in
    let new = c.halt_next-answer.new.tracks.items in
    let result = c.halt_next-answer.result in
    let m : Listener = record { end = s.end; order = s.order; kinds = s.kinds; lanes = s.tracks.items; refused = s.refused } in
    let made = halted m steps given new (g.P.Port.log c.args.port.now) now result calls (subst (λ (x : Listener). Hears x steps given) (sym c.self.view_is) h) c.halt_next-answer.ensures.halting in
    subst (λ (o : Listener). Halted o (record m { lanes = new; refused = c.refused_by-self-inside.result }) steps given now result) c.self.view_is
    (subst (λ r. Halted m (record m { lanes = new; refused = r }) steps given now result) (sym c.refused_by-self-inside.ensures) made)
