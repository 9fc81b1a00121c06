use Rattle.std.proofs.Common.{take}
use Rattle.ic_hub.specs.Taking.{Finds}
use Rattle.ic_hub.proofs.take.first_ready.Given as goal

abbrev pub invariant-loop-place : goal.invariant-loop-place
invariant-loop-place l = Finds l.receivers (take l.place-index l.places) l.last l.first
