-- A motion's receivers rise, as positions that pass a test do.
use Rattle.std.proofs.Common.{◌≡◌, ◌==◌, ℕ, ◌+◌, ◌<◌, ◌≤◌, suc, zero, Bool, true, false, cond, List, [], ◌∷◌, map, filter, length, get_or, subst, arith}
use Rattle.std.specs.List.{enumerate_from}
use Rattle.std.specs.List.Sorted.{IsStrictlyIncreasing}
use Rattle.ic_conntab.specs.Ends.{receiving_ends, receivers_of}
use Rattle.ic_conntab.specs.PlaceLaws.{ReceiversRise}

-- each is at least this, and above the one before
abbrev Rises : ℕ → List ℕ → Type 0
Rises n [] = Unit {0}
Rises n (x ∷ xs) = (n ≤ x) × Rises (x + 1) xs

lower : (m n : ℕ) (xs : List ℕ) → n ≤ m → Rises m xs → Rises n xs
lower m n [] l h = tt
lower m n (x ∷ xs) l h = (let g : m ≤ x = h.0 in omega arith, h.1)

places_rise : {X : Type 0} (test : X → Bool) (n : ℕ) (xs : List X) → Rises n (map (λ p. p.0) (filter (λ p. test p.1) (enumerate_from n xs)))
places_rise test n [] = tt
places_rise {X} test n (x ∷ xs) = by (test x) (places_rise test (n + 1) xs)
  where
    rest : List (ℕ × X)
    rest = filter (λ p. test p.1) (enumerate_from (n + 1) xs)

    by : (b : Bool) → Rises (n + 1) (map (λ p. p.0) rest) → Rises n (map (λ p. p.0) (cond b ((n, x) ∷ rest) rest))
    by true g = (omega arith, g)
    by false g = lower (n + 1) n (map (λ p. p.0) rest) (omega arith) g

increasing : (n : ℕ) (xs : List ℕ) → Rises n xs → IsStrictlyIncreasing xs
increasing n [] h k l = absurd (omega arith)
increasing n (x ∷ []) h k l = absurd (omega arith)
increasing n (x ∷ y ∷ ys) h zero l = let g : x + 1 ≤ y = h.1.0 in omega arith
increasing n (x ∷ y ∷ ys) h (suc k) l =
    let m : k + 1 < length (y ∷ ys) = omega arith in
    let at : suc (k + 1) ≡ suc k + 1 = omega arith in
    subst (λ j. get_or (y ∷ ys) k 0 < get_or (x ∷ y ∷ ys) j 0) at (increasing (x + 1) (y ∷ ys) h.1 k m)

pub receivers_rise : ReceiversRise
unfolding receivers_of
receivers_rise ends motion = increasing 0 (receivers_of ends motion) (places_rise (λ e. e.key.motion == motion) 0 (receiving_ends ends))
