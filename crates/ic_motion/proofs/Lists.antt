-- Lists and tests, as proofs here meet them.
use Rattle.std.proofs.Common.{◌≡◌, ℕ, zero, suc, ℤ, List, [], ◌∷◌, ◌++◌, map, Bool, true, false, ◌||◌, Some, refl, ap, sym, ◌∙◌, append-nil, arith, subst}
use Rattle.std.specs.List.{flat_map, list_any, AllByRecursion}
use Rattle.std.specs.Ordering.{int_eq}
use Rattle.std.specs.Prelude.{◌<ℤ◌, slice_get}
use Rattle.std.proofs.lemmas.Bool.Decides.{Decides-int_eq}
use Rattle.std.proofs.lemmas.Int.{ints}
use Rattle.std.proofs.lemmas.List.Concat.{flat_map-append}

-- ---- tests

pub or_end : (a : Bool) → (a || true) ≡ true
or_end true = refl
or_end false = refl

pub or_none : (a : Bool) → (a || false) ≡ a
or_none true = refl
or_none false = refl

pub or_assoc : (a b c : Bool) → ((a || b) || c) ≡ (a || (b || c))
or_assoc true b c = refl
or_assoc false b c = refl

-- three tests, each of a list with one more, are the three of the list or the three of what was added
pub mix : (w v t u f g : Bool) → ((w || v) || ((t || u) || (f || g))) ≡ ((w || (t || f)) || (v || (u || g)))
mix true v t u f g = refl
mix false true true u f g = refl
mix false true false u true g = refl
mix false true false u false g = refl
mix false false true u f g = refl
mix false false false true true g = refl
mix false false false true false g = refl
mix false false false false f g = refl

pub int_same : (a b : ℤ) → a ≡ b → int_eq a b ≡ true
int_same a b is = (Decides-int_eq a b).1 is

pub int_differ : (a b : ℤ) → (a ≡ b → ⊥) → int_eq a b ≡ false
int_differ a b ne = by (int_eq a b) refl
  where
    by : (t : Bool) → int_eq a b ≡ t → int_eq a b ≡ false
    by true is = absurd (ne ((Decides-int_eq a b).0 is))
    by false is = is

pub int_apart : (a b : ℤ) → int_eq a b ≡ false → a ≡ b → ⊥
int_apart a b is same = let w : true ≡ false = sym (int_same a b same) ∙ is in cc

pub below_apart : (a b : ℤ) → a <ℤ b → a ≡ b → ⊥
below_apart a b lt is = omega (arith, ints, lt, is)

-- ---- lists

pub any_append : {A : Type 0} (p : A → Bool) (xs ys : List A) → list_any p (xs ++ ys) ≡ (list_any p xs || list_any p ys)
any_append p [] ys = refl
any_append p (x ∷ xs) ys = ap (λ b. p x || b) (any_append p xs ys) ∙ sym (or_assoc (p x) (list_any p xs) (list_any p ys))

pub any_push : {A : Type 0} (p : A → Bool) (xs : List A) (x : A) → list_any p (xs ++ x ∷ []) ≡ (list_any p xs || p x)
any_push p xs x = any_append p xs (x ∷ []) ∙ ap (λ b. list_any p xs || b) (or_none (p x))

pub flat_push : {A B : Type 0} (f : A → List B) (xs : List A) (x : A) → flat_map f (xs ++ x ∷ []) ≡ flat_map f xs ++ f x
flat_push f xs x = flat_map-append f xs (x ∷ []) ∙ ap (λ l. flat_map f xs ++ l) (append-nil (f x))

pub map_append : {A B : Type 0} (f : A → B) (xs ys : List A) → map f (xs ++ ys) ≡ map f xs ++ map f ys
map_append f [] ys = refl
map_append f (x ∷ xs) ys = ap (λ l. f x ∷ l) (map_append f xs ys)

pub all_append : {A : Type 0} (P : A → Type 0) (xs ys : List A) → AllByRecursion P xs → AllByRecursion P ys → AllByRecursion P (xs ++ ys)
all_append P [] ys a b = b
all_append P (x ∷ xs) ys a b = (a.0, all_append P xs ys a.1 b)

pub all_behind : {A : Type 0} (P : A → Type 0) (xs ys : List A) → AllByRecursion P (xs ++ ys) → AllByRecursion P ys
all_behind P [] ys a = a
all_behind P (x ∷ xs) ys a = all_behind P xs ys a.1

pub all_map : {A : Type 0} (P Q : A → Type 0) → ((x : A) → P x → Q x) → (xs : List A) → AllByRecursion P xs → AllByRecursion Q xs
all_map P Q f [] a = tt
all_map P Q f (x ∷ xs) a = (f x a.0, all_map P Q f xs a.1)

pub get_all : {A : Type 0} (P : A → Type 0) (xs : List A) (k : ℕ) (x : A) → AllByRecursion P xs → slice_get xs k ≡ Some x → P x
get_all P [] k x a is = cc
get_all P (y ∷ xs) zero x a is = let same : y ≡ x = cc in subst P same a.0
get_all P (y ∷ xs) (suc k) x a is = get_all P xs k x a.1 is
