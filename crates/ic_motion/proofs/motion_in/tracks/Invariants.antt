use Rattle.std.proofs.Common.{◌≡◌, map}
use Rattle.ic_motion.specs.Hearing.{fresh_lane}
use Rattle.ic_motion.proofs.motion_in.tracks.Given as goal

abbrev pub invariant-loop-sender : goal.invariant-loop-sender
invariant-loop-sender l = l.tracks.items ≡ map fresh_lane l.yielded
