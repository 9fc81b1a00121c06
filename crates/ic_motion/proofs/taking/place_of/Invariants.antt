use Rattle.std.proofs.Common.{◌≡◌, ◌+◌, ◌-◌, ◌≤◌, drop, length}
use Rattle.ic_motion.specs.Feeding.{place_of}
use Rattle.ic_motion.proofs.taking.place_of.Given as goal

abbrev pub invariant-loop-place : goal.invariant-loop-place
invariant-loop-place l = (l.place ≤ length l.tracks) × (place_of l.tracks l.sender ≡ l.place + place_of (drop l.place l.tracks) l.sender)

abbrev pub decreases-loop-place : goal.decreases-loop-place
decreases-loop-place l = length l.tracks - l.place
