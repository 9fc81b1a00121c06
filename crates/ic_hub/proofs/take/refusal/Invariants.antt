use Rattle.std.proofs.Common.{◌≡◌, ℕ, Some, take, slice_get}
use Rattle.std.specs.List.{Contains}
use Rattle.ic_receiver.specs.Receiving.{Receiving}
use Rattle.ic_receiver.specs.Standing.{TakesNoMore}
use Rattle.ic_hub.proofs.take.refusal.Given as goal

abbrev pub invariant-loop-place : goal.invariant-loop-place
invariant-loop-place l = (place : ℕ) (r : Receiving) → Contains (take l.place-index l.places) place → slice_get l.receivers place ≡ Some r → TakesNoMore r
