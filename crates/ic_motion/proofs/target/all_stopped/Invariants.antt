use Rattle.std.proofs.Common.{◌≡◌, drop}
use Rattle.ic_motion.specs.Sending.{all_stopped}
use Rattle.ic_motion.proofs.target.all_stopped.Given as goal

abbrev pub invariant-loop-target : goal.invariant-loop-target
invariant-loop-target l = all_stopped (drop l.target-index l.targets) ≡ all_stopped l.targets
