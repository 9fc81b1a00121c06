use Rattle.std.proofs.Common.{◌≡◌, map}
use Rattle.ic_motion.specs.Sending.{fresh_target}
use Rattle.ic_motion.proofs.target.targets.Given as goal

abbrev pub invariant-loop-to : goal.invariant-loop-to
invariant-loop-to l = l.targets.items ≡ map fresh_target l.yielded
