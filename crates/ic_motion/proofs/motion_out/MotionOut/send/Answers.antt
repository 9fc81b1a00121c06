use Rattle.std.proofs.Common.{◌≡◌, false, refl, sym, subst}
use Rattle.ic_motion.specs.Sending.{Sender, receivers_of, route_by, Sends, SendsToEach}
use Rattle.ic_motion.specs.Sent.{SameOut, SendsBy}
use Rattle.ic_motion.proofs.Kept.{send_receivers}
use Rattle.ic_motion.proofs.SentBy.{sent_by}
use Rattle.ic_motion.proofs.motion_out.MotionOut.send.Goals as goal

pub send_row-answer-requires-clause-sends : goal.send_row-answer-requires-clause-sends
send_row-answer-requires-clause-sends g c =
    subst (λ (m : Sender). SendsToEach (g.P.Port.keys c.args.port.now) m.motion (receivers_of m.targets)) (sym c.self.view_is) c.requires.sends

pub returns-clause-same : goal.returns-clause-same
returns-clause-same g c =
    let s = c.self.inside in
    let after = c.send_row-answer.new.targets.items in
    let new = c.send_row-answer.new.work in
    let made : Sender = record { motion = s.motion; kind = s.kind; packet = s.packet; targets = after; work = new; ending = s.ending; refused = c.refused_by-self-inside.result } in
    subst (λ (o : Sender). SameOut o made) c.self.view_is (record {
      motion = refl;
      kind = refl;
      packet = refl;
      receivers = send_receivers (g.P.Port.keys c.args.port.now) s.motion (route_by s.kind) s.packet s.targets.items after c.args.row.now s.work new (g.P.Port.log c.args.port.now) (g.P.Port.log c.send_row-answer.new.port) c.send_row-answer.result c.send_row-answer.ensures.sending;
    })

pub returns-clause-sends : goal.returns-clause-sends
returns-clause-sends g c =
    λ steps rows none calls h.
    let s = c.self.inside in
    let row = c.args.row.now in
    let keys = g.P.Port.keys c.args.port.now in
    let log = g.P.Port.log c.args.port.now in
    let now = g.P.Port.log c.send_row-answer.new.port in
    let after = c.send_row-answer.new.targets.items in
    let new = c.send_row-answer.new.work in
    let result = c.send_row-answer.result in
    let m : Sender = record { motion = s.motion; kind = s.kind; packet = s.packet; targets = s.targets.items; work = s.work; ending = s.ending; refused = s.refused } in
    let going = subst (λ (x : Sender). x.ending ≡ false) (sym c.self.view_is) c.requires.open_ in
    let made = sent_by keys m after new steps rows row log now result going calls (subst (λ (x : Sender). Sends x steps rows) (sym c.self.view_is) h) c.send_row-answer.ensures.sending in
    subst (λ (o : Sender). SendsBy o (record m { targets = after; work = new; refused = c.refused_by-self-inside.result }) steps rows row now result) c.self.view_is
    (subst (λ r. SendsBy m (record m { targets = after; work = new; refused = r }) steps rows row now result) (sym c.refused_by-self-inside.ensures) made)
