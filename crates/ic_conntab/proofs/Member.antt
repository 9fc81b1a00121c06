-- What is in a list, by recursion, and in a filter, a map, a numbering and a list without repetition.
use Rattle.std.proofs.Common.{◌≡◌, ℕ, ◌+◌, ◌<◌, suc, zero, Bool, true, false, not, cond, ◌⊎◌, inl, inr, List, [], ◌∷◌, map, filter, length, slice_get, Contains, Some, refl, sym, ap, subst, ◌∙◌, arith}
use Rattle.std.specs.List.{enumerate_from}
use Rattle.std.proofs.lemmas.Option.{slice_get-get_or}
use Rattle.ic_conntab.specs.Ends.{distinct, places_where}

abbrev pub Has : {X : Type 0} → List X → X → Type 0
Has [] x = ⊥
Has (y ∷ ys) x = (y ≡ x) ⊎ Has ys x

module _ {X : Type 0} where
  pub contained : (xs : List X) (x : X) → Has xs x → Contains xs x
  contained [] x h = absurd h
  contained (y ∷ ys) x (inl e) = (0, omega arith, e)
  contained (y ∷ ys) x (inr h) =
      let c : Contains ys x = contained ys x h in
      let within : c.0 < length ys = c.1 in
      (suc c.0, omega (arith, within), c.2)

  at_place : (xs : List X) (x : X) (k : ℕ) → slice_get xs k ≡ Some x → Has xs x
  at_place [] x k h = absurd (cc)
  at_place (y ∷ ys) x zero h = inl (cc)
  at_place (y ∷ ys) x (suc k) h = inr (at_place ys x k h)

  pub place_of : (xs : List X) (x : X) → Has xs x → (k : ℕ) × (slice_get xs k ≡ Some x)
  place_of [] x h = absurd h
  place_of (y ∷ ys) x (inl e) = (0, ap Some e)
  place_of (y ∷ ys) x (inr h) = let r : (k : ℕ) × (slice_get ys k ≡ Some x) = place_of ys x h in (suc r.0, r.1)

  pub has : (xs : List X) (x : X) → Contains xs x → Has xs x
  has xs x c = at_place xs x c.0 (slice_get-get_or xs c.0 x c.1 ∙ ap Some c.2)

  -- ---- a filter

  pub kept : (p : X → Bool) (xs : List X) (x : X) → Has (filter p xs) x → Has xs x × (p x ≡ true)
  kept p [] x h = absurd h
  kept p (y ∷ ys) x h = by (p y) refl h (kept p ys x)
    where
      by : (b : Bool) → p y ≡ b → Has (cond b (y ∷ filter p ys) (filter p ys)) x → (Has (filter p ys) x → Has ys x × (p x ≡ true)) → Has (y ∷ ys) x × (p x ≡ true)
      by true e (inl at) on = (inl at, ap p (sym at) ∙ e)
      by true e (inr g) on = let r : Has ys x × (p x ≡ true) = on g in (inr r.0, r.1)
      by false e g on = let r : Has ys x × (p x ≡ true) = on g in (inr r.0, r.1)

  pub keeps : (p : X → Bool) (xs : List X) (x : X) → Has xs x → p x ≡ true → Has (filter p xs) x
  keeps p [] x h passes = absurd h
  keeps p (y ∷ ys) x (inl at) passes = subst (λ b. Has (cond b (y ∷ filter p ys) (filter p ys)) x) (sym (ap p at ∙ passes)) (inl at)
  keeps p (y ∷ ys) x (inr h) passes = by (p y) (keeps p ys x h passes)
    where
      by : (b : Bool) → Has (filter p ys) x → Has (cond b (y ∷ filter p ys) (filter p ys)) x
      by true g = inr g
      by false g = g

  -- ---- a map

  module _ {Y : Type 0} (f : X → Y) where
    pub from_map : (xs : List X) (y : Y) → Has (map f xs) y → (x : X) × Has xs x × (f x ≡ y)
    from_map [] y h = absurd h
    from_map (x ∷ xs) y (inl e) = (x, inl refl, e)
    from_map (x ∷ xs) y (inr h) = let r : (z : X) × Has xs z × (f z ≡ y) = from_map xs y h in (r.0, inr r.1, r.2)

    pub to_map : (xs : List X) (x : X) → Has xs x → Has (map f xs) (f x)
    to_map [] x h = absurd h
    to_map (y ∷ ys) x (inl e) = inl (ap f e)
    to_map (y ∷ ys) x (inr h) = inr (to_map ys x h)

  -- ---- without repetition

  module _ (eq : X → X → Bool) (same : (x y : X) → eq x y ≡ true → x ≡ y) where
    pub from_distinct : (xs : List X) (x : X) → Has (distinct eq xs) x → Has xs x
    from_distinct [] x h = absurd h
    from_distinct (y ∷ ys) x (inl e) = inl e
    from_distinct (y ∷ ys) x (inr h) = inr (from_distinct ys x (kept (λ z. not (eq y z)) (distinct eq ys) x h).0)

    pub to_distinct : (xs : List X) (x : X) → Has xs x → Has (distinct eq xs) x
    to_distinct [] x h = absurd h
    to_distinct (y ∷ ys) x (inl e) = inl e
    to_distinct (y ∷ ys) x (inr h) = by (eq y x) refl (to_distinct ys x h)
      where
        by : (b : Bool) → eq y x ≡ b → Has (distinct eq ys) x → Has (distinct eq (y ∷ ys)) x
        by true e g = inl (same y x e)
        by false e g = inr (keeps (λ z. not (eq y z)) (distinct eq ys) x g (ap not e))

  -- ---- numbered

  pub from_numbers : (n : ℕ) (xs : List X) (p : ℕ × X) → Has (enumerate_from n xs) p → (j : ℕ) × (p.0 ≡ n + j) × (slice_get xs j ≡ Some p.1)
  from_numbers n [] p h = absurd h
  from_numbers n (x ∷ xs) p (inl e) = (0, sym (ap (λ q. q.0) e) ∙ omega arith, ap (λ q. Some q.1) e)
  from_numbers n (x ∷ xs) p (inr h) =
      let r : (j : ℕ) × (p.0 ≡ n + 1 + j) × (slice_get xs j ≡ Some p.1) = from_numbers (n + 1) xs p h in
      let at : p.0 ≡ n + 1 + r.0 = r.1 in
      (suc r.0, at ∙ omega arith, r.2)

  pub to_numbers : (n : ℕ) (xs : List X) (j : ℕ) (x : X) → slice_get xs j ≡ Some x → Has (enumerate_from n xs) (n + j, x)
  to_numbers n [] j x h = absurd (cc)
  to_numbers n (y ∷ ys) zero x h = let is : y ≡ x = cc in let at : n ≡ n + 0 = omega arith in inl (λ i. (at i, is i))
  to_numbers n (y ∷ ys) (suc j) x h = let at : n + 1 + j ≡ n + suc j = omega arith in inr (subst (λ k. Has (enumerate_from (n + 1) ys) (k, x)) at (to_numbers (n + 1) ys j x h))

-- ---- the places that pass

pub from_places : {X : Type 0} (test : X → Bool) (xs : List X) (place : ℕ) → Has (places_where test xs) place → (x : X) × (slice_get xs place ≡ Some x) × (test x ≡ true)
from_places {X} test xs place h =
    let r : (p : ℕ × X) × Has (filter (λ p. test p.1) (enumerate_from 0 xs)) p × (p.0 ≡ place) = from_map (λ p. p.0) (filter (λ p. test p.1) (enumerate_from 0 xs)) place h in
    let s : Has (enumerate_from 0 xs) r.0 × (test r.0.1 ≡ true) = kept (λ p. test p.1) (enumerate_from 0 xs) r.0 r.1 in
    let t : (j : ℕ) × (r.0.0 ≡ 0 + j) × (slice_get xs j ≡ Some r.0.1) = from_numbers 0 xs r.0 s.0 in
    let first : r.0.0 ≡ 0 + t.0 = t.1 in
    let here : r.0.0 ≡ place = r.2 in
    let at : t.0 ≡ place = omega arith in
    (r.0.1, subst (λ k. slice_get xs k ≡ Some r.0.1) at t.2, s.1)

pub to_places : {X : Type 0} (test : X → Bool) (xs : List X) (place : ℕ) (x : X) → slice_get xs place ≡ Some x → test x ≡ true → Has (places_where test xs) place
to_places test xs place x h passes =
    let at : 0 + place ≡ place = omega arith in
    subst (Has (places_where test xs)) at
    (to_map (λ p. p.0) (filter (λ p. test p.1) (enumerate_from 0 xs)) (0 + place, x) (keeps (λ p. test p.1) (enumerate_from 0 xs) (0 + place, x) (to_numbers 0 xs place x h) passes))
