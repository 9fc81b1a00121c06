use Rattle.std.proofs.Common.{◌≡◌, ◌≤◌, ◌-◌, length, drop}
use Rattle.ic_motion.specs.Sending.{all_over}
use Rattle.ic_motion.proofs.target.next_unfinished.Given as goal

abbrev pub invariant-loop-place : goal.invariant-loop-place
invariant-loop-place l = (l.place ≤ length l.targets) × (all_over (drop l.place l.targets) ≡ all_over l.targets)

abbrev pub decreases-loop-place : goal.decreases-loop-place
decreases-loop-place l = length l.targets - l.place
