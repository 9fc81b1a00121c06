use Rattle.std.proofs.Common.{◌≡◌, IfOk, sym, subst}
use Rattle.ic_motion.specs.Hearing.{Listener, senders_of, streams_of, rows_held, Hears}
use Rattle.ic_motion.specs.Picking.{pick_of}
use Rattle.ic_motion.specs.Pulling.{Pulls, Pulled}
use Rattle.ic_motion.proofs.Pulled.{pulled}
use Rattle.ic_motion.specs.Answers.{RowsFall}
use Rattle.ic_motion.proofs.Senders.{pull_senders, pull_falls}
use Rattle.ic_motion.proofs.motion_in.MotionIn.pull.Goals as goal

pub returns-clause-senders : goal.returns-clause-senders
returns-clause-senders g c =
    let s = c.self.inside in
    let new = c.advance-answer.new.tracks.items in
    subst (λ (m : Listener). IfOk c.advance-answer.result (λ _. senders_of new ≡ senders_of m.lanes)) c.self.view_is
    (pull_senders (pick_of s.order (streams_of s.tracks.items)) (g.P.Port.keys c.args.port.now) s.end c.as_slice.result.now s.tracks.items new (g.P.Port.log c.args.port.now) (g.P.Port.log c.advance-answer.new.port) c.advance-answer.result c.advance-answer.ensures.pulls)

pub returns-clause-pulls : goal.returns-clause-pulls
returns-clause-pulls g c =
    λ steps given none calls h.
    let s = c.self.inside in
    let keys = g.P.Port.keys c.args.port.now in
    let log = g.P.Port.log c.args.port.now in
    let now = g.P.Port.log c.advance-answer.new.port in
    let new = c.advance-answer.new.tracks.items in
    let result = c.advance-answer.result in
    let m : Listener = record { end = s.end; order = s.order; kinds = s.kinds; lanes = s.tracks.items; refused = s.refused } in
    let made = pulled keys m new steps given log now result calls (subst (λ (x : Listener). Hears x steps given) (sym c.self.view_is) h)
    (subst (λ ks. Pulls (pick_of s.order (streams_of s.tracks.items)) keys s.end ks s.tracks.items new log now result) c.as_slice.ensures c.advance-answer.ensures.pulls) in
    subst (λ (o : Listener). Pulled o (record m { lanes = new; refused = c.refused_by_pull-self-inside.result }) steps given now result) c.self.view_is
    (subst (λ r. Pulled m (record m { lanes = new; refused = r }) steps given now result) (sym c.refused_by_pull-self-inside.ensures) made)

pub returns-clause-falls : goal.returns-clause-falls
returns-clause-falls g c =
    let s = c.self.inside in
    let new = c.advance-answer.new.tracks.items in
    subst (λ (m : Listener). IfOk c.advance-answer.result (λ got. RowsFall got (rows_held m.lanes) (rows_held new))) c.self.view_is
    (pull_falls (pick_of s.order (streams_of s.tracks.items)) (g.P.Port.keys c.args.port.now) s.end c.as_slice.result.now s.tracks.items new (g.P.Port.log c.args.port.now) (g.P.Port.log c.advance-answer.new.port) c.advance-answer.result c.advance-answer.ensures.pulls)
