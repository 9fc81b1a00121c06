-- A list that is sorted, and in which elements that tie stand as in another one, is the only one.
use Rattle.std.proofs.Common.{◌≡◌, ℕ, suc, ◌<◌, ◌≤◌, Bool, true, false, not, ◌&&◌, cond, List, [], ◌∷◌, length, get_or, filter, refl, sym, ap, ◌∙◌, arith, true≢false}
use Rattle.std.specs.Cmp.{IsStrictWeakOrder}
use Rattle.std.specs.List.Sorted.{IsSortedBy, ties}
use Rattle.std.proofs.lemmas.List.Sorted.{sorted_far}

-- no element of the list comes before x
abbrev pub Low : {X : Type 0} → (X → X → Bool) → X → List X → Type 0
Low lt x [] = Unit {0}
Low lt x (y ∷ ys) = (lt y x ≡ false) × Low lt x ys

-- no element comes before one that stands before it
abbrev pub Up : {X : Type 0} → (X → X → Bool) → List X → Type 0
Up lt [] = Unit {0}
Up lt (x ∷ xs) = Low lt x xs × Up lt xs

module _ {X : Type 0} (lt : X → X → Bool) (o : IsStrictWeakOrder lt) where
  -- ---- from a sort's clause

  low_from : (x : X) (ys : List X) → ((k : ℕ) (d : X) → k < length ys → lt (get_or ys k d) x ≡ false) → Low lt x ys
  low_from x [] h = tt
  low_from x (y ∷ ys) h = (h 0 x (omega arith), low_from x ys (λ k d l. h (suc k) d (omega (arith, l))))

  up_from_far : (xs : List X) → ((i j : ℕ) (d : X) → i ≤ j → j < length xs → lt (get_or xs j d) (get_or xs i d) ≡ false) → Up lt xs
  up_from_far [] h = tt
  up_from_far (x ∷ xs) h = (low_from x xs (λ k d l. h 0 (suc k) d (omega arith) (omega (arith, l))), up_from_far xs (λ i j d le l. h (suc i) (suc j) d (omega (arith, le)) (omega (arith, l))))

  pub up_from : (xs : List X) → IsSortedBy lt xs → Up lt xs
  up_from xs h = up_from_far xs (sorted_far lt o xs h)

  -- ---- elements that tie

  itself : (x : X) → lt x x ≡ false
  itself x = by (lt x x) refl
    where
      by : (b : Bool) → lt x x ≡ b → lt x x ≡ false
      by true e = o.one_way x x e
      by false e = e

  tied : (x y : X) → lt x y ≡ false → lt y x ≡ false → ties lt x y ≡ true
  tied x y p q = ap (λ b. not b && not (lt y x)) p ∙ ap (λ b. not b) q

  apart : (x y : X) → lt x y ≡ true → ties lt x y ≡ false
  apart x y p = ap (λ b. not b && not (lt y x)) p

  kept : (x y : X) (ys : List X) → ties lt x y ≡ true → filter (ties lt x) (y ∷ ys) ≡ y ∷ filter (ties lt x) ys
  kept x y ys e = ap (λ b. cond b (y ∷ filter (ties lt x) ys) (filter (ties lt x) ys)) e

  left_out : (x y : X) (ys : List X) → ties lt x y ≡ false → filter (ties lt x) (y ∷ ys) ≡ filter (ties lt x) ys
  left_out x y ys e = ap (λ b. cond b (y ∷ filter (ties lt x) ys) (filter (ties lt x) ys)) e

  -- what comes before z comes before all that z doesn't come after
  before : (y z w : X) → lt y z ≡ true → lt w z ≡ false → lt y w ≡ true
  before y z w p q = by (lt y w) refl
    where
      by : (b : Bool) → lt y w ≡ b → lt y w ≡ true
      by true e = e
      by false e = absurd (true≢false (sym p ∙ o.chain y w z e q))

  none_tie : (y z : X) (zs : List X) → lt y z ≡ true → Low lt z zs → filter (ties lt y) zs ≡ []
  none_tie y z [] p low = refl
  none_tie y z (w ∷ zs) p low = left_out y w zs (apart y w (before y z w p low.0)) ∙ none_tie y z zs p low.1

  -- ---- the only one

  head_of : X → List X → X
  head_of d [] = d
  head_of d (x ∷ xs) = x

  tail_of : List X → List X
  tail_of [] = []
  tail_of (x ∷ xs) = xs

  -- two sorted lists with the same elements that tie with any have heads that tie
  heads : (y : X) (ys : List X) (z : X) (zs : List X) → Low lt z zs → filter (ties lt y) (y ∷ ys) ≡ filter (ties lt y) (z ∷ zs) → lt y z ≡ false
  heads y ys z zs low e = by (lt y z) refl
    where
      by : (b : Bool) → lt y z ≡ b → lt y z ≡ false
      by false p = p
      by true p =
          let same : y ∷ filter (ties lt y) ys ≡ [] = sym (kept y y ys (tied y y (itself y) (itself y))) ∙ e ∙ left_out y z zs (apart y z p) ∙ none_tie y z zs p low in
          absurd (cc)

  pub only : (ys zs : List X) → Up lt ys → Up lt zs → ((x : X) → filter (ties lt x) ys ≡ filter (ties lt x) zs) → ys ≡ zs
  unfolding head_of tail_of
  only [] [] u v h = refl
  only [] (z ∷ zs) u v h = let e : [] ≡ z ∷ filter (ties lt z) zs = h z ∙ kept z z zs (tied z z (itself z) (itself z)) in absurd (cc)
  only (y ∷ ys) [] u v h = let e : y ∷ filter (ties lt y) ys ≡ [] = sym (kept y y ys (tied y y (itself y) (itself y))) ∙ h y in absurd (cc)
  only (y ∷ ys) (z ∷ zs) u v h =
      let a : lt y z ≡ false = heads y ys z zs v.0 (h y) in
      let b : lt z y ≡ false = heads z zs y ys u.0 (sym (h z)) in
      let e : y ∷ filter (ties lt y) ys ≡ z ∷ filter (ties lt y) zs = sym (kept y y ys (tied y y (itself y) (itself y))) ∙ h y ∙ kept y z zs (tied y z a b) in
      let same : y ≡ z = ap (head_of y) e in
      ap (λ l. y ∷ l) (only ys zs u.1 v.1 (rest same)) ∙ ap (λ w. w ∷ zs) same
    where
      rest : y ≡ z → (x : X) → filter (ties lt x) ys ≡ filter (ties lt x) zs
      rest same x = by (ties lt x y) refl
        where
          by : (b : Bool) → ties lt x y ≡ b → filter (ties lt x) ys ≡ filter (ties lt x) zs
          by true e = ap tail_of (sym (kept x y ys e) ∙ h x ∙ kept x z zs (ap (ties lt x) (sym same) ∙ e))
          by false e = sym (left_out x y ys e) ∙ h x ∙ left_out x z zs (ap (ties lt x) (sym same) ∙ e)
