-- Elements without repetition: that they differ, and that a set to which all are put one after another keeps just them.
use Rattle.std.proofs.Common.{◌≡◌, ◌||◌, ◌&&◌, Bool, true, false, not, cond, if◌then◌else◌, List, [], ◌∷◌, ◌++◌, filter, refl, sym, ap, ◌∙◌, append-nil, append_assoc, ℕ, ◌+◌, ◌<◌, suc, length, map, take, drop, get_or, add-one, drop-cons}
use Rattle.std.specs.List.{IsDistinct, AllByRecursion, list_any}
use Rattle.std.proofs.lemmas.Bool.{not-true}
use Rattle.std.proofs.lemmas.List.{take_more, map-append}
use Rattle.std.proofs.lemmas.List.Elements.{All-weaker, filter_passes, recursion_from_All, filter_agree}
use Rattle.std.proofs.lemmas.List.Folds.{list_any-append}
use Rattle.std.proofs.lemmas.Map.Keys.{IsDistinct-head, IsDistinct-tail, IsDistinct-cons}
use Rattle.indexmap.specs.IndexSet.{insert_all, insert_key}
use Rattle.ic_conntab.specs.Ends.{distinct}

module _ {K : Type 0} where
  -- ---- filters

  one_passes : (p : K → Bool) (x : K) (xs : List K) (b : Bool) → p x ≡ b → filter p (x ∷ xs) ≡ cond b (x ∷ filter p xs) (filter p xs)
  one_passes p x xs b h = ap (λ c. cond c (x ∷ filter p xs) (filter p xs)) h

  -- filtering twice asks both
  pub filter_twice : (p q : K → Bool) (xs : List K) → filter p (filter q xs) ≡ filter (λ x. q x && p x) xs
  filter_twice p q [] = refl
  filter_twice p q (x ∷ xs) = by (q x) refl (filter_twice p q xs)
    where
      by : (b : Bool) → q x ≡ b → filter p (filter q xs) ≡ filter (λ y. q y && p y) xs → filter p (filter q (x ∷ xs)) ≡ filter (λ y. q y && p y) (x ∷ xs)
      by true e rest =
          ap (filter p) (one_passes q x xs true e) ∙ (λ i. cond (p x) (x ∷ rest i) (rest i))
          ∙ sym (one_passes (λ y. q y && p y) x xs (p x) (ap (λ c. c && p x) e))
      by false e rest =
          ap (filter p) (one_passes q x xs false e) ∙ rest
          ∙ sym (one_passes (λ y. q y && p y) x xs false (ap (λ c. c && p x) e))

  -- filtering keeps all if all pass
  pub filter_all : (p : K → Bool) → ((x : K) → p x ≡ true) → (xs : List K) → filter p xs ≡ xs
  filter_all p all [] = refl
  filter_all p all (x ∷ xs) = one_passes p x xs true (all x) ∙ ap (λ l. x ∷ l) (filter_all p all xs)

  All-filtered : (p : K → Bool) (P : K → Type 0) (xs : List K) → AllByRecursion P xs → AllByRecursion P (filter p xs)
  All-filtered p P [] h = tt
  All-filtered p P (x ∷ xs) h = by (p x) (All-filtered p P xs h.1)
    where
      by : (b : Bool) → AllByRecursion P (filter p xs) → AllByRecursion P (cond b (x ∷ filter p xs) (filter p xs))
      by true rest = (h.0, rest)
      by false rest = rest

  -- a filter of distinct elements is distinct
  IsDistinct-filtered : (eq : K → K → Bool) (p : K → Bool) (xs : List K) → IsDistinct eq xs → IsDistinct eq (filter p xs)
  IsDistinct-filtered eq p [] h = h
  IsDistinct-filtered eq p (x ∷ xs) h = by (p x) (IsDistinct-filtered eq p xs (IsDistinct-tail eq x xs h))
    where
      by : (b : Bool) → IsDistinct eq (filter p xs) → IsDistinct eq (cond b (x ∷ filter p xs) (filter p xs))
      by true rest = IsDistinct-cons eq x (filter p xs) (All-filtered p (λ y. eq x y ≡ false) xs (IsDistinct-head eq x xs h)) rest
      by false rest = rest

  -- ---- no two are equal
  pub distinct_is : (eq : K → K → Bool) (xs : List K) → IsDistinct eq (distinct eq xs)
  unfolding IsDistinct
  distinct_is eq [] = tt
  distinct_is eq (x ∷ xs) =
      let rest : List K = filter (λ y. not (eq x y)) (distinct eq xs) in
      IsDistinct-cons eq x rest
      (recursion_from_All (λ y. eq x y ≡ false) rest
      (All-weaker (λ y. not (eq x y) ≡ true) (λ y. eq x y ≡ false) (λ y h. not-true (eq x y) h) rest (filter_passes (λ y. not (eq x y)) (distinct eq xs))))
      (IsDistinct-filtered eq (λ y. not (eq x y)) (distinct eq xs) (distinct_is eq xs))
  -- ---- into a set

module _ {K : Type 0} (eq : K → K → Bool) (same : (x y : K) → eq x y ≡ true → x ≡ y) (flips : (x y : K) → eq x y ≡ eq y x) where
  is_new : List K → K → Bool
  is_new ks y = not (list_any (eq y) ks)

  -- if an element is in the set already, putting it changes nothing
  there : (ks : List K) (x : K) → list_any (eq x) ks ≡ true → (y : K) → (not (eq x y) && is_new ks y) ≡ is_new ks y
  unfolding is_new
  there ks x h y = by (eq x y) refl
    where
      by : (b : Bool) → eq x y ≡ b → (not (eq x y) && not (list_any (eq y) ks)) ≡ not (list_any (eq y) ks)
      by false e = ap (λ b. not b && not (list_any (eq y) ks)) e
      by true e = ap (λ b. not b && not (list_any (eq y) ks)) e ∙ sym (ap not (ap (λ z. list_any (eq z) ks) (sym (same x y e)) ∙ h))

  -- if it isn't, it is there afterwards
  behind : (ks : List K) (x y : K) → (not (eq x y) && is_new ks y) ≡ is_new (ks ++ x ∷ []) y
  unfolding is_new
  behind ks x y =
      by (list_any (eq y) ks) (eq x y) ∙ ap (λ b. not (list_any (eq y) ks || (b || false))) (flips x y) ∙ sym (ap not (list_any-append (eq y) ks (x ∷ [])))
    where
      by : (a b : Bool) → (not b && not a) ≡ not (a || (b || false))
      by true true = refl
      by true false = refl
      by false true = refl
      by false false = refl

  put_behind : (ks xs : List K) → insert_all eq ks xs ≡ ks ++ filter (is_new ks) (distinct eq xs)
  unfolding is_new
  put_behind ks [] = sym (append-nil ks)
  put_behind ks (x ∷ xs) = by (list_any (eq x) ks) refl (λ l. put_behind l xs)
    where
      rest : List K
      rest = distinct eq xs

      by : (b : Bool) → list_any (eq x) ks ≡ b → ((l : List K) → insert_all eq l xs ≡ l ++ filter (is_new l) rest)
          → insert_all eq ks (x ∷ xs) ≡ ks ++ filter (is_new ks) (x ∷ filter (λ y. not (eq x y)) rest)
      by true e on =
          ap (λ b. insert_all eq (if b then ks else ks ++ x ∷ []) xs) e ∙ on ks
          ∙ ap (λ l. ks ++ l) (sym (one_passes (is_new ks) x (filter (λ y. not (eq x y)) rest) false (ap not e)
          ∙ filter_twice (is_new ks) (λ y. not (eq x y)) rest ∙ filter_agree (λ y. not (eq x y) && is_new ks y) (is_new ks) (there ks x e) rest))
      by false e on =
          ap (λ b. insert_all eq (if b then ks else ks ++ x ∷ []) xs) e ∙ on (ks ++ x ∷ []) ∙ append_assoc ks (x ∷ []) (filter (is_new (ks ++ x ∷ [])) rest)
          ∙ ap (λ l. ks ++ x ∷ l) (sym (filter_twice (is_new ks) (λ y. not (eq x y)) rest
          ∙ filter_agree (λ y. not (eq x y) && is_new ks y) (is_new (ks ++ x ∷ [])) (behind ks x) rest))
          ∙ ap (λ l. ks ++ l) (sym (one_passes (is_new ks) x (filter (λ y. not (eq x y)) rest) true (ap not e)))

  -- all put into an empty set are the distinct ones, in their order
  pub put_all : (xs : List K) → insert_all eq [] xs ≡ distinct eq xs
  unfolding is_new
  put_all xs = put_behind [] xs ∙ filter_all (is_new []) (λ _. refl) (distinct eq xs)

-- ---- the elements of a loop, one more

-- one more is put
pub put_more : {X K : Type 0} (eq : K → K → Bool) (f : X → K) (xs : List X) (i : ℕ) (x : X) (ks more all : List K) → i < length xs → x ≡ get_or xs i x
    → insert_all eq ks (map f (drop i xs)) ≡ all → more ≡ insert_key eq ks (f x) → insert_all eq more (map f (drop (i + 1) xs)) ≡ all
put_more eq f xs i x ks more all within is so_far now =
    (λ k. insert_all eq (now k) (map f (drop (add-one i k) xs)))
    ∙ ap (λ y. insert_all eq ks (map f (y ∷ drop (suc i) xs))) is
    ∙ ap (λ l. insert_all eq ks (map f l)) (sym (drop-cons xs i x within)) ∙ so_far

-- one more is mapped
pub mapped_more : {X K : Type 0} (f : X → K) (xs : List X) (i : ℕ) (x : X) (ys : List K) → i < length xs → x ≡ get_or xs i x
    → ys ≡ map f (take i xs) → ys ++ f x ∷ [] ≡ map f (take (i + 1) xs)
mapped_more f xs i x ys within is so_far =
    (λ k. so_far k ++ f (is k) ∷ []) ∙ sym (map-append f (take i xs) (get_or xs i x ∷ [])) ∙ ap (map f) (sym (take_more xs i x within))
