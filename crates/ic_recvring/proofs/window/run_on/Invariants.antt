use Rattle.std.proofs.Common.{◌≡◌, ℕ, ◌-◌, ◌<◌, ◌≤◌, true, is_some}
use Rattle.ic_recvring.specs.Views.{packet_at}
use Rattle.ic_recvring.proofs.window.run_on.Given as goal

abbrev pub invariant-loop-end : goal.invariant-loop-end
invariant-loop-end l = (l.run ≤ l.end) × (l.end ≤ l.top) × ((n : ℕ) → l.run < n → n ≤ l.end → is_some (packet_at l.slots l.depth n) ≡ true)

abbrev pub decreases-loop-end : goal.decreases-loop-end
decreases-loop-end l = l.top - l.end
