-- One of several is replaced.
use Rattle.std.proofs.Common.{◌≡◌, ◌≢◌, ℕ, zero, suc, List, [], ◌∷◌, set, Some, None, ap, refl, sym, arith, inl, inr, ◌⊎◌, slice_get}

-- what stands at a place then is the new one, or what stood there
pub set_cases : {A : Type 0} (xs : List A) (i j : ℕ) (d b : A) → slice_get (set xs i d) j ≡ Some b → ((i ≡ j) × (b ≡ d)) ⊎ ((i ≢ j) × (slice_get xs j ≡ Some b))
set_cases [] i j d b h = let bad : None ≡ Some b = h in cc
set_cases (x ∷ xs) zero zero d b h = let same : d ≡ b = cc in inl (refl, sym same)
set_cases (x ∷ xs) zero (suc j) d b h = inr (λ e. absurd (omega (arith, e)), h)
set_cases (x ∷ xs) (suc i) zero d b h = inr (λ e. absurd (omega (arith, e)), h)
set_cases (x ∷ xs) (suc i) (suc j) d b h = elim (set_cases xs i j d b h) [ inl w ↦ inl (ap suc w.0, w.1) | inr w ↦ inr (λ e. w.0 (omega (arith, e)), w.1) ]
