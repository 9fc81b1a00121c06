use Rattle.std.proofs.Common.{ℕ, ◌≤◌, ◌<◌, ◌-◌}
use Rattle.ic_motion.specs.Putting.{IsOpen}
use Rattle.ic_motion.proofs.target.next_open.Given as goal

abbrev pub invariant-loop-place : goal.invariant-loop-place
invariant-loop-place l = (l.at ≤ l.place) × ((k : ℕ) → l.at ≤ k → k < l.place → IsOpen l.targets k → ⊥)

abbrev pub decreases-loop-place : goal.decreases-loop-place
decreases-loop-place l = l.end - l.place
