-- What stands at a place of a list.
use Rattle.std.proofs.Common.{◌≡◌, ℕ, zero, suc, ◌+◌, ◌<◌, ◌≤◌, List, [], ◌∷◌, map, Some, None, refl, ap, ◌∙◌, subst, arith}
use Rattle.std.specs.List.{AllByRecursion, range_with_len, slice_get}

pub get_map : {A B : Type 0} (f : A → B) (xs : List A) (k : ℕ) (x : A) → slice_get xs k ≡ Some x → slice_get (map f xs) k ≡ Some (f x)
get_map f [] k x is = absurd cc
get_map f (y ∷ xs) zero x is = let same : y ≡ x = cc in ap (λ z. Some (f z)) same
get_map f (y ∷ xs) (suc k) x is = get_map f xs k x is

-- what stands in a list that was made by a function came from there
pub came_from : {A B : Type 0} (f : A → B) (xs : List A) (k : ℕ) (y : B) → slice_get (map f xs) k ≡ Some y → (x : A) × (slice_get xs k ≡ Some x) × (f x ≡ y)
came_from f [] k y is = absurd cc
came_from f (x ∷ xs) zero y is = let same : f x ≡ y = cc in (x, refl, same)
came_from f (x ∷ xs) (suc k) y is = came_from f xs k y is

pub all_get : {A : Type 0} (P : A → Type 0) (xs : List A) (k : ℕ) (x : A) → AllByRecursion P xs → slice_get xs k ≡ Some x → P x
all_get P [] k x all is = absurd cc
all_get P (y ∷ xs) zero x all is = let same : y ≡ x = cc in subst P same all.0
all_get P (y ∷ xs) (suc k) x all is = all_get P xs k x all.1 is

pub all_both : {A : Type 0} (P Q R : A → Type 0) → ((x : A) → P x → Q x → R x) → (xs : List A) → AllByRecursion P xs → AllByRecursion Q xs → AllByRecursion R xs
all_both P Q R both [] ps qs = tt
all_both P Q R both (x ∷ xs) ps qs = (both x ps.0 qs.0, all_both P Q R both xs ps.1 qs.1)

range_get_from : {A : Type 0} (f : ℕ → A) (a n k : ℕ) → k < n → slice_get (map f (range_with_len a n)) k ≡ Some (f (a + k))
range_get_from f a zero k lt = absurd (omega (arith, lt))
range_get_from f a (suc n) zero lt = ap (λ j. Some (f j)) (omega arith)
range_get_from f a (suc n) (suc k) lt = range_get_from f (a + 1) n k (omega (arith, lt)) ∙ ap (λ j. Some (f j)) (omega arith)

-- the list of what a function gives of 0, 1 and so on
pub range_get : {A : Type 0} (f : ℕ → A) (n k : ℕ) → k < n → slice_get (map f (range_with_len 0 n)) k ≡ Some (f k)
range_get f n k lt = range_get_from f 0 n k lt ∙ ap (λ j. Some (f j)) (omega arith)

range_past_from : {A : Type 0} (f : ℕ → A) (a n k : ℕ) → n ≤ k → slice_get (map f (range_with_len a n)) k ≡ None
range_past_from f a zero k le = refl
range_past_from f a (suc n) zero le = absurd (omega (arith, le))
range_past_from f a (suc n) (suc k) le = range_past_from f (a + 1) n k (omega (arith, le))

pub range_past : {A : Type 0} (f : ℕ → A) (n k : ℕ) → n ≤ k → slice_get (map f (range_with_len 0 n)) k ≡ None
range_past f n k le = range_past_from f 0 n k le
