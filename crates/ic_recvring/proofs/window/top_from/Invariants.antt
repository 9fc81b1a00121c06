use Rattle.std.proofs.Common.{◌≡◌, ℕ, ◌-◌, ◌<◌, ◌≤◌, false, is_some}
use Rattle.ic_recvring.specs.Views.{packet_at}
use Rattle.ic_recvring.proofs.window.top_from.Given as goal

abbrev pub invariant-loop-greatest : goal.invariant-loop-greatest
invariant-loop-greatest l = (l.consumed ≤ l.greatest) × (l.greatest ≤ l.top) × ((n : ℕ) → l.greatest < n → n ≤ l.top → is_some (packet_at l.slots l.depth n) ≡ false)

abbrev pub decreases-loop-greatest : goal.decreases-loop-greatest
decreases-loop-greatest l = l.greatest - l.consumed
