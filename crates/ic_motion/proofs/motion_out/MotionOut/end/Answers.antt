use Rattle.std.proofs.Common.{true, refl, sym, subst}
use Rattle.ic_motion.specs.Sending.{Sender, receivers_of, IsIdle, Sends, SendsToEach}
use Rattle.ic_motion.specs.Sent.{SameOut, EndsAfter}
use Rattle.ic_motion.proofs.Kept.{end_receivers}
use Rattle.ic_motion.proofs.SentBy.{ended_by}
use Rattle.ic_motion.proofs.motion_out.MotionOut.end.Goals as goal

pub end_next-answer-requires : goal.end_next-answer-requires
end_next-answer-requires g c =
    record { sends = subst (λ (m : Sender). SendsToEach (g.P.Port.keys c.args.port.now) m.motion (receivers_of m.targets)) (sym c.self.view_is) c.requires.sends }

pub returns-clause-same : goal.returns-clause-same
returns-clause-same g c =
    let s = c.self.inside in
    let after = c.end_next-answer.new.targets.items in
    let made : Sender = record { motion = s.motion; kind = s.kind; packet = s.packet; targets = after; work = s.work; ending = true; refused = c.refused_by-self-inside.result } in
    subst (λ (o : Sender). SameOut o made) c.self.view_is (record {
      motion = refl;
      kind = refl;
      packet = refl;
      receivers = end_receivers (g.P.Port.keys c.args.port.now) s.motion s.targets.items after (g.P.Port.log c.args.port.now) (g.P.Port.log c.end_next-answer.new.port) c.end_next-answer.result c.end_next-answer.ensures.ending;
    })

pub returns-clause-ends : goal.returns-clause-ends
returns-clause-ends g c =
    λ steps rows none calls h.
    let s = c.self.inside in
    let keys = g.P.Port.keys c.args.port.now in
    let log = g.P.Port.log c.args.port.now in
    let now = g.P.Port.log c.end_next-answer.new.port in
    let after = c.end_next-answer.new.targets.items in
    let result = c.end_next-answer.result in
    let m : Sender = record { motion = s.motion; kind = s.kind; packet = s.packet; targets = s.targets.items; work = s.work; ending = s.ending; refused = s.refused } in
    let idle = subst (λ (x : Sender). IsIdle x.work) (sym c.self.view_is) c.requires.idle in
    let made = ended_by keys m after steps rows log now result calls idle (subst (λ (x : Sender). Sends x steps rows) (sym c.self.view_is) h) c.end_next-answer.ensures.ending in
    subst (λ (o : Sender). EndsAfter o (record m { targets = after; ending = true; refused = c.refused_by-self-inside.result }) steps rows now result) c.self.view_is
    (subst (λ r. EndsAfter m (record m { targets = after; ending = true; refused = r }) steps rows now result) (sym c.refused_by-self-inside.ensures) made)
