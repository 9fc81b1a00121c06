-- Elements of lists at their places, and tests of numbers.
use Rattle.std.proofs.Common.{◌≡◌, ◌⊎◌, ℕ, zero, suc, ◌==◌, ℤ, List, [], ◌∷◌, ◌++◌, set, Bool, true, false, not, Some, None, refl, ap, sym, ◌∙◌, arith, inl, inr, slice_get}
use Rattle.std.proofs.lemmas.Bool.Decides.{eqb_tells, Decides-int_eq}
use Rattle.std.specs.Ordering.{int_eq}

pub get_set : {X : Type 0} (xs : List X) (i j : ℕ) (y z : X) → slice_get (set xs i y) j ≡ Some z → ((i ≡ j) × (z ≡ y)) ⊎ ((i ≡ j → ⊥) × (slice_get xs j ≡ Some z))
get_set [] i j y z at = cc
get_set (x ∷ xs) zero zero y z at = inl (refl, cc)
get_set (x ∷ xs) zero (suc j) y z at = inr (λ e. absurd (omega (arith, e)), at)
get_set (x ∷ xs) (suc i) zero y z at = inr (λ e. absurd (omega (arith, e)), at)
get_set (x ∷ xs) (suc i) (suc j) y z at =
    elim (get_set xs i j y z at) [ inl w ↦ inl (ap suc w.0, w.1) | inr w ↦ inr (λ e. w.0 (omega (arith, e)), w.1) ]

pub set_same : {X : Type 0} (xs : List X) (i : ℕ) (x : X) → slice_get xs i ≡ Some x → set xs i x ≡ xs
set_same [] i x at = refl
set_same (z ∷ xs) zero x at = let same : z ≡ x = cc in ap (λ y. y ∷ xs) (sym same)
set_same (z ∷ xs) (suc i) x at = ap (λ l. z ∷ l) (set_same xs i x at)

pub same_some : {X : Type 0} (x y : X) → Some x ≡ Some y → x ≡ y
same_some x y e = cc

pub none_some : {X : Type 0} (x : X) → None ≡ Some x → ⊥
none_some x e = cc

pub eqb_same : (n : ℕ) → (n == n) ≡ true
eqb_same n = elim (eqb_tells n n) [ inl w ↦ w.0 | inr w ↦ absurd (w.1 refl) ]

pub int_same : (x : ℤ) → int_eq x x ≡ true
int_same x = (Decides-int_eq x x).1 refl

pub int_differs : (x y : ℤ) → not (int_eq x y) ≡ true → x ≡ y → ⊥
int_differs x y h e = let same : int_eq x y ≡ true = ap (int_eq x) (sym e) ∙ int_same x in let bad : false ≡ true = sym (ap not same) ∙ h in cc

pub int_equals : (x y : ℤ) → not (int_eq x y) ≡ false → x ≡ y
int_equals x y h = by (int_eq x y) refl h
  where
    by : (b : Bool) → int_eq x y ≡ b → not b ≡ false → x ≡ y
    by true e n = (Decides-int_eq x y).0 e
    by false e n = absurd (let bad : true ≡ false = n in cc)

pub append_cancel : {X : Type 0} (xs ys zs : List X) → xs ++ ys ≡ xs ++ zs → ys ≡ zs
append_cancel [] ys zs e = e
append_cancel (x ∷ xs) ys zs e = append_cancel xs ys zs (let rest : xs ++ ys ≡ xs ++ zs = cc in rest)
