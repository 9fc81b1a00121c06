-- Which elements are in a list, and which numbers in a stretch of them.
use Rattle.std.proofs.Common.{◌≡◌, ℕ, zero, suc, ◌+◌, ◌<◌, ◌≤◌, ◌||◌, ◌==◌, Bool, true, false, List, [], ◌∷◌, ◌++◌, refl, ap, sym, ◌∙◌, subst, arith, inl, inr, ◌⊎◌}
use Rattle.std.specs.List.{Contains}
use Rattle.std.proofs.lemmas.Bool.Decides.{leb_tells, eqb_tells}
use Rattle.ic_recvring.specs.Numbers.{numbers_from, has}

pub Contains-none : {A : Type 0} (x : A) → Contains [] x → ⊥
Contains-none x (k, lt, is) = omega arith

pub Contains-head : {A : Type 0} (x : A) (xs : List A) → Contains (x ∷ xs) x
Contains-head x xs = (0, omega arith, refl)

pub Contains-tail : {A : Type 0} (x : A) (xs : List A) (y : A) → Contains xs y → Contains (x ∷ xs) y
Contains-tail x xs y (k, lt, is) = (suc k, omega (arith, lt), is)

pub head_or_tail : {A : Type 0} (x : A) (xs : List A) (y : A) → Contains (x ∷ xs) y → (x ≡ y) ⊎ Contains xs y
head_or_tail x xs y (zero, lt, is) = inl is
head_or_tail x xs y (suc k, lt, is) = inr (k, omega (arith, lt), is)

-- ---- stretches

pub numbers_in : (n count k : ℕ) → n ≤ k → k < n + count → Contains (numbers_from n count) k
numbers_in n zero k low high = absurd (omega (arith, low, high))
numbers_in n (suc count) k low high =
    elim (leb_tells k n) [
      | inl w ↦ let same : n ≡ k = omega (arith, low, w.1) in subst (Contains (n ∷ numbers_from (n + 1) count)) same (Contains-head n (numbers_from (n + 1) count))
      | inr w ↦ Contains-tail n (numbers_from (n + 1) count) k (numbers_in (n + 1) count k (omega (arith, w.1)) (omega (arith, high)))
    ]

pub numbers_bound : (n count k : ℕ) → Contains (numbers_from n count) k → (n ≤ k) × (k < n + count)
numbers_bound n zero k h = absurd (Contains-none k h)
numbers_bound n (suc count) k h =
    elim (head_or_tail n (numbers_from (n + 1) count) k h) [
      | inl same ↦ (omega (arith, same), omega (arith, same))
      | inr there ↦ let b = numbers_bound (n + 1) count k there in (omega (arith, b.0), omega (arith, b.1))
    ]

-- a stretch in two
pub numbers_from-add : (n a b : ℕ) → numbers_from n (a + b) ≡ numbers_from n a ++ numbers_from (n + a) b
numbers_from-add n zero b =
    let nothing : zero + b ≡ b = omega arith in
    let here : n ≡ n + zero = omega arith in
    ap (numbers_from n) nothing ∙ ap (λ m. numbers_from m b) here
numbers_from-add n (suc a) b =
    let longer : suc a + b ≡ suc (a + b) = omega arith in
    let moved : (n + 1) + a ≡ n + suc a = omega arith in
    ap (numbers_from n) longer ∙ ap (λ l. n ∷ l) (numbers_from-add (n + 1) a b ∙ ap (λ m. numbers_from (n + 1) a ++ numbers_from m b) moved)

pub numbers_from-more : (n count : ℕ) → numbers_from n (count + 1) ≡ numbers_from n count ++ (n + count) ∷ []
numbers_from-more n count = numbers_from-add n count 1

-- ---- the test

or_true : (a b : Bool) → b ≡ true → (a || b) ≡ true
or_true true b h = refl
or_true false b h = h

pub has_there : (xs : List ℕ) (n : ℕ) → Contains xs n → has xs n ≡ true
has_there [] n h = absurd (Contains-none n h)
has_there (x ∷ xs) n h =
    elim (head_or_tail x xs n h) [
      | inl same ↦ here (x == n) (elim (eqb_tells x n) [ inl w ↦ w.0 | inr w ↦ absurd (w.1 same) ])
      | inr there ↦ or_true (x == n) (has xs n) (has_there xs n there)
    ]
  where
    here : (b : Bool) → b ≡ true → (b || has xs n) ≡ true
    here true e = refl
    here false e = absurd (cc)

pub there_has : (xs : List ℕ) (n : ℕ) → has xs n ≡ true → Contains xs n
there_has [] n h = absurd (let bad : false ≡ true = h in cc)
there_has (x ∷ xs) n h =
    elim (eqb_tells x n) [
      | inl w ↦ subst (Contains (x ∷ xs)) w.1 (Contains-head x xs)
      | inr w ↦ Contains-tail x xs n (there_has xs n (later (x == n) w.0 h))
    ]
  where
    later : (b : Bool) → b ≡ false → (b || has xs n) ≡ true → has xs n ≡ true
    later true e k = absurd (cc)
    later false e k = k

pub has_not : (xs : List ℕ) (n : ℕ) → (Contains xs n → ⊥) → has xs n ≡ false
has_not xs n apart = by (has xs n) refl
  where
    by : (b : Bool) → has xs n ≡ b → has xs n ≡ false
    by true e = absurd (apart (there_has xs n e))
    by false e = e

-- two lists with the same numbers have the same answers
pub same_has : (xs ys : List ℕ) (n : ℕ) → (Contains xs n → Contains ys n) → (Contains ys n → Contains xs n) → has xs n ≡ has ys n
same_has xs ys n there back = by (has xs n) refl
  where
    by : (b : Bool) → has xs n ≡ b → b ≡ has ys n
    by true e = sym (has_there ys n (there (there_has xs n e)))
    by false e = sym (has_not ys n (λ h. let on : has xs n ≡ true = has_there xs n (back h) in cc))
