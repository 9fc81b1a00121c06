use Rattle.std.proofs.Common.{◌≡◌, drop}
use Rattle.ic_motion.specs.Sending.{all_over}
use Rattle.ic_motion.proofs.target.all_over.Given as goal

abbrev pub invariant-loop-target : goal.invariant-loop-target
invariant-loop-target l = all_over (drop l.target-index l.targets) ≡ all_over l.targets
