-- The element of a joined list, found by walking its parts.
use Rattle.std.proofs.Common.{◌≡◌, ℕ, zero, suc, ◌+◌, ◌-◌, ◌<◌, ◌≤◌, List, [], ◌∷◌, ◌++◌, length, drop, get_or, Some, None, refl, ap, sym, ◌∙◌, subst, arith, slice_get}
use Rattle.std.specs.List.{flat_map}
use Rattle.std.proofs.lemmas.Option.{slice_get-get_or}

drop_at : {X : Type 0} (xs : List X) (i : ℕ) (d : X) → i < length xs → drop i xs ≡ get_or xs i d ∷ drop (i + 1) xs
drop_at [] i d lt = absurd (omega (arith, lt))
drop_at (x ∷ xs) zero d lt = refl
drop_at (x ∷ xs) (suc i) d lt = let next : suc (i + 1) ≡ suc i + 1 = omega arith in drop_at xs i d (omega (arith, lt)) ∙ ap (λ k. get_or xs i d ∷ drop k (x ∷ xs)) next

drop_end : {X : Type 0} (xs : List X) (i : ℕ) → length xs ≤ i → drop i xs ≡ []
drop_end [] zero le = refl
drop_end [] (suc i) le = refl
drop_end (x ∷ xs) zero le = absurd (omega (arith, le))
drop_end (x ∷ xs) (suc i) le = drop_end xs i (omega (arith, le))

get_front : {X : Type 0} (xs ys : List X) (k : ℕ) → k < length xs → slice_get (xs ++ ys) k ≡ slice_get xs k
get_front [] ys k lt = absurd (omega (arith, lt))
get_front (x ∷ xs) ys zero lt = refl
get_front (x ∷ xs) ys (suc k) lt = get_front xs ys k (omega (arith, lt))

get_back : {X : Type 0} (xs ys : List X) (k : ℕ) → length xs ≤ k → slice_get (xs ++ ys) k ≡ slice_get ys (k - length xs)
get_back [] ys k le = let e : k ≡ k - 0 = omega arith in ap (slice_get ys) e
get_back (x ∷ xs) ys zero le = absurd (omega (arith, le))
get_back (x ∷ xs) ys (suc k) le = let e : k - length xs ≡ suc k - suc (length xs) = omega arith in get_back xs ys k (omega (arith, le)) ∙ ap (slice_get ys) e

module _ {X Y : Type 0} (f : X → List Y) (xs : List X) where
  next : (i : ℕ) (x : X) → i < length xs → x ≡ get_or xs i x → flat_map f (drop i xs) ≡ f x ++ flat_map f (drop (i + 1) xs)
  next i x lt is = ap (flat_map f) (drop_at xs i x lt) ∙ ap (λ y. f y ++ flat_map f (drop (i + 1) xs)) (sym is)

  pub found : (i number left : ℕ) (x : X) (ys : List Y) (y : Y) → i < length xs → x ≡ get_or xs i x → ys ≡ f x → left < length ys → y ≡ get_or ys left y
      → slice_get (flat_map f xs) number ≡ slice_get (flat_map f (drop i xs)) left → Some y ≡ slice_get (flat_map f xs) number
  found i number left x ys y lt is are within y_is so_far =
      ap Some y_is ∙ sym (slice_get-get_or ys left y within) ∙ ap (λ l. slice_get l left) are
      ∙ sym (get_front (f x) (flat_map f (drop (i + 1) xs)) left (subst (λ l. left < length l) are within)) ∙ ap (λ l. slice_get l left) (sym (next i x lt is)) ∙ sym so_far

  pub walked : (i number left : ℕ) (x : X) (ys : List Y) → i < length xs → x ≡ get_or xs i x → ys ≡ f x → length ys ≤ left
      → slice_get (flat_map f xs) number ≡ slice_get (flat_map f (drop i xs)) left → slice_get (flat_map f xs) number ≡ slice_get (flat_map f (drop (i + 1) xs)) (left - length ys)
  walked i number left x ys lt is are past so_far =
      so_far ∙ ap (λ l. slice_get l left) (next i x lt is) ∙ get_back (f x) (flat_map f (drop (i + 1) xs)) left (subst (λ l. length l ≤ left) are past)
      ∙ ap (λ l. slice_get (flat_map f (drop (i + 1) xs)) (left - length l)) (sym are)

  pub none : (i number left : ℕ) → length xs ≤ i → slice_get (flat_map f xs) number ≡ slice_get (flat_map f (drop i xs)) left → None ≡ slice_get (flat_map f xs) number
  none i number left past so_far = sym (so_far ∙ ap (λ l. slice_get (flat_map f l) left) (drop_end xs i past))
