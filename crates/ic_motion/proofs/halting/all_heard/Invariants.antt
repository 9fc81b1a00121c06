use Rattle.std.proofs.Common.{◌≡◌, drop}
use Rattle.ic_motion.specs.Halting.{all_heard}
use Rattle.ic_motion.proofs.halting.all_heard.Given as goal

abbrev pub invariant-loop-track : goal.invariant-loop-track
invariant-loop-track l = all_heard (drop l.track-index l.tracks) ≡ all_heard l.tracks
