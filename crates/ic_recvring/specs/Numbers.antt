-- Numbers of packets: how far they run without a gap, the greatest of them, and those that are missing.
use Rattle.std.specs.Prelude.{◌≡◌, ℕ, zero, suc, ◌+◌, ◌-◌, ◌<◌, ◌≤◌, ◌==◌, ◌⊎◌, List, [], ◌∷◌, Bool, not, filter, Contains}
use Rattle.std.specs.List.{list_any}

-- so many numbers from n on
abbrev pub numbers_from : ℕ → ℕ → List ℕ
numbers_from n zero = []
numbers_from n (suc count) = n ∷ numbers_from (n + 1) count

-- these numbers increase strictly, from above n
abbrev pub Increases : ℕ → List ℕ → Type 0
Increases n [] = Unit {0}
Increases n (m ∷ ms) = (n < m) × Increases m ms

-- the end of the unbroken run: 1 to r are among these numbers, and r + 1 isn't
pub record IsRunEnd (numbers : List ℕ) (r : ℕ) : Type 0 where
  pub run : (n : ℕ) → 1 ≤ n → n ≤ r → Contains numbers n
  pub end : Contains numbers (r + 1) → ⊥

-- the greatest of these numbers; 0, which no packet has, if there is none
pub record IsGreatest (numbers : List ℕ) (g : ℕ) : Type 0 where
  pub bound : (n : ℕ) → Contains numbers n → n ≤ g
  pub here : (g ≡ 0) ⊎ Contains numbers g

-- is n among these numbers?
abbrev pub has : List ℕ → ℕ → Bool
has numbers n = list_any (λ m. m == n) numbers

-- the numbers above r, up to g, that aren't among these
abbrev pub missing : List ℕ → ℕ → ℕ → List ℕ
missing numbers r g = filter (λ n. not (has numbers n)) (numbers_from (r + 1) (g - r))
