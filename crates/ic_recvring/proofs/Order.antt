-- Numbers that increase.
use Rattle.std.proofs.Common.{ℕ, ◌<◌, ◌≤◌, List, [], ◌∷◌, arith, inl, inr}
use Rattle.std.specs.List.{Contains}
use Rattle.ic_recvring.specs.Numbers.{Increases}
use Rattle.ic_recvring.proofs.Among.{Contains-none, head_or_tail}

pub above : (n : ℕ) (ms : List ℕ) (m : ℕ) → Increases n ms → Contains ms m → n < m
above n [] m up h = absurd (Contains-none m h)
above n (k ∷ ms) m up h =
    elim (head_or_tail k ms m h) [
      | inl same ↦ omega (arith, up.0, same)
      | inr there ↦ omega (arith, up.0, above k ms m up.1 there)
    ]

pub Increases-weaker : (n m : ℕ) (ms : List ℕ) → m ≤ n → Increases n ms → Increases m ms
Increases-weaker n m [] le up = tt
Increases-weaker n m (k ∷ ms) le up = (omega (arith, le, up.0), up.1)
