-- The first place that passes: of a mapped list, and of one more element.
use Rattle.std.proofs.Common.{◌≡◌, ℕ, ◌+◌, ◌<◌, Bool, true, false, cond, List, [], ◌∷◌, ◌++◌, map, position, length, get_or, take, Option, None, Some, refl, sym, ap, ◌∙◌, arith, length-take}
use Rattle.std.specs.List.{position_from}
use Rattle.std.proofs.lemmas.Iterator.Adapters.{position_from-zero}
use Rattle.std.proofs.lemmas.List.{take_more}

-- the first, or else the second
pub or_else : Option ℕ → Option ℕ → Option ℕ
or_else (Some at) other = Some at
or_else None other = other

module _ {K : Type 0} where
  by_front : (p : K → Bool) (xs : List K) → position p xs ≡ position_from p 0 xs
  by_front p xs = position_from-zero p xs

  from-map : {X : Type 0} (p : K → Bool) (f : X → K) (n : ℕ) (xs : List X) → position_from p n (map f xs) ≡ position_from (λ x. p (f x)) n xs
  from-map p f n [] = refl
  from-map p f n (x ∷ xs) = ap (cond (p (f x)) (Some n)) (from-map p f (n + 1) xs)

  -- of a mapped list
  pub position-map : {X : Type 0} (p : K → Bool) (f : X → K) (xs : List X) → position p (map f xs) ≡ position (λ x. p (f x)) xs
  position-map p f xs = by_front p (map f xs) ∙ from-map p f 0 xs ∙ sym (position_from-zero (λ x. p (f x)) xs)

  from-push : (p : K → Bool) (n : ℕ) (xs : List K) (x : K) → position_from p n (xs ++ x ∷ []) ≡ or_else (position_from p n xs) (cond (p x) (Some (n + length xs)) None)
  unfolding or_else
  from-push p n [] x = ap (λ k. cond (p x) (Some k) None) (omega arith)
  from-push p n (y ∷ ys) x = by (p y) refl (from-push p (n + 1) ys x)
    where
      by : (b : Bool) → p y ≡ b → position_from p (n + 1) (ys ++ x ∷ []) ≡ or_else (position_from p (n + 1) ys) (cond (p x) (Some (n + 1 + length ys)) None)
          → position_from p n (y ∷ (ys ++ x ∷ [])) ≡ or_else (position_from p n (y ∷ ys)) (cond (p x) (Some (n + length (y ∷ ys))) None)
      by true e rest =
          ap (λ b. cond b (Some n) (position_from p (n + 1) (ys ++ x ∷ []))) e
          ∙ sym (ap (λ b. or_else (cond b (Some n) (position_from p (n + 1) ys)) (cond (p x) (Some (n + length (y ∷ ys))) None)) e)
      by false e rest =
          ap (λ b. cond b (Some n) (position_from p (n + 1) (ys ++ x ∷ []))) e ∙ rest
          ∙ ap (λ k. or_else (position_from p (n + 1) ys) (cond (p x) (Some k) None)) (omega arith)
          ∙ sym (ap (λ b. or_else (cond b (Some n) (position_from p (n + 1) ys)) (cond (p x) (Some (n + length (y ∷ ys))) None)) e)

  pub position_more : (p : K → Bool) (xs : List K) (i : ℕ) (d : K) → i < length xs
      → position p (take (i + 1) xs) ≡ or_else (position p (take i xs)) (cond (p (get_or xs i d)) (Some i) None)
  position_more p xs i d within =
      by_front p (take (i + 1) xs) ∙ ap (position_from p 0) (take_more xs i d within) ∙ from-push p 0 (take i xs) (get_or xs i d)
      ∙ ap (λ k. or_else (position_from p 0 (take i xs)) (cond (p (get_or xs i d)) (Some k) None)) (omega (arith, length-take i xs))
      ∙ ap (λ o. or_else o (cond (p (get_or xs i d)) (Some i) None)) (sym (by_front p (take i xs)))

  -- a step of a loop that keeps the first place
  pub first_more : (p : K → Bool) (xs : List K) (i : ℕ) (d : K) → i < length xs → (old new : Option ℕ) → old ≡ position p (take i xs)
      → ((at : ℕ) → old ≡ Some at → new ≡ Some at) → (old ≡ None → new ≡ cond (p (get_or xs i d)) (Some i) None) → new ≡ position p (take (i + 1) xs)
  unfolding or_else
  first_more p xs i d within None new is had had_not =
      had_not refl ∙ ap (λ o. or_else o (cond (p (get_or xs i d)) (Some i) None)) is ∙ sym (position_more p xs i d within)
  first_more p xs i d within (Some at) new is had had_not =
      had at refl ∙ ap (λ o. or_else o (cond (p (get_or xs i d)) (Some i) None)) is ∙ sym (position_more p xs i d within)
