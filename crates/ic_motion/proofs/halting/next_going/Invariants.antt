use Rattle.std.proofs.Common.{◌≡◌, ◌≤◌, ◌-◌, length, drop}
use Rattle.ic_motion.specs.Halting.{all_heard}
use Rattle.ic_motion.proofs.halting.next_going.Given as goal

abbrev pub invariant-loop-place : goal.invariant-loop-place
invariant-loop-place l = (l.place ≤ length l.tracks) × (all_heard (drop l.place l.tracks) ≡ all_heard l.tracks)

abbrev pub decreases-loop-place : goal.decreases-loop-place
decreases-loop-place l = length l.tracks - l.place
