use Rattle.std.proofs.Common.{◌≡◌, List, ℤ, map, subst}
use Rattle.ic_motion.specs.Sending.{fresh_target}
use Rattle.ic_motion.proofs.FreshOut.{fresh_sends}
use Rattle.ic_motion.proofs.motion_out.MotionOut.new.Goals as goal

pub returns-clause-sends : goal.returns-clause-sends
returns-clause-sends c = λ steps unsent.
    fresh_sends c.args.motion c.args.kind c.args.packet c.args.receivers c.in_ok-targets.targets.items c.in_ok-work.work steps c.requires.ascend
    (subst (λ (l : List ℤ). c.in_ok-targets.targets.items ≡ map fresh_target l) c.as_slice.ensures c.in_ok-targets.ensures) c.in_ok-work.ensures unsent
