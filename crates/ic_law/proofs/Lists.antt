-- Lists: elements, joined readings, and two cuts of one list.
use Rattle.std.proofs.Common.{◌≡◌, ℕ, zero, suc, List, [], ◌∷◌, ◌++◌, length, map, Bool, true, false, ◌||◌, Some, None, refl, ap, sym, ◌∙◌, subst, arith, inl}
use Rattle.std.proofs.Common.{inr, ◌⊎◌, append_assoc, append-nil, slice_get}
use Rattle.std.specs.List.{flat_map, Contains, list_any}
use Rattle.std.proofs.lemmas.List.Elements.{Contains-append_cases, Contains-append_left, Contains-append_right}
use Rattle.ic_law.specs.Points.{IsPrefix}

-- ---- elements

pub Contains-none : {A : Type 0} (x : A) → Contains [] x → ⊥
Contains-none x (k, lt, is) = omega (arith, lt)

pub Contains-head : {A : Type 0} (x : A) (xs : List A) → Contains (x ∷ xs) x
Contains-head x xs = (0, omega arith, refl)

pub Contains-one : {A : Type 0} (x y : A) → Contains (x ∷ []) y → y ≡ x
Contains-one x y (zero, lt, is) = sym is
Contains-one x y (suc k, lt, is) = absurd (omega (arith, lt))

pub Contains-tail : {A : Type 0} (x : A) (xs : List A) (y : A) → Contains xs y → Contains (x ∷ xs) y
Contains-tail x xs y (k, lt, is) = (suc k, omega (arith, lt), is)

pub head_or_tail : {A : Type 0} (x : A) (xs : List A) (y : A) → Contains (x ∷ xs) y → (x ≡ y) ⊎ Contains xs y
head_or_tail x xs y (zero, lt, is) = inl is
head_or_tail x xs y (suc k, lt, is) = inr (k, omega (arith, lt), is)

pub Contains-middle : {A : Type 0} (before : List A) (e : A) (after : List A) → Contains (before ++ e ∷ after) e
Contains-middle before e after = Contains-append_right before (e ∷ after) e (Contains-head e after)

pub Contains-map : {A B : Type 0} (f : A → B) (xs : List A) (x : A) → Contains xs x → Contains (map f xs) (f x)
Contains-map f [] x h = absurd (Contains-none x h)
Contains-map f (y ∷ xs) x h =
    elim (head_or_tail y xs x h) [
      | inl same ↦ subst (λ z. Contains (f y ∷ map f xs) (f z)) same (Contains-head (f y) (map f xs))
      | inr there ↦ Contains-tail (f y) (map f xs) (f x) (Contains-map f xs x there)
    ]

pub map-Contains : {A B : Type 0} (f : A → B) (xs : List A) (y : B) → Contains (map f xs) y → (x : A) × Contains xs x × (y ≡ f x)
map-Contains f [] y h = absurd (Contains-none y h)
map-Contains f (x ∷ xs) y h =
    elim (head_or_tail (f x) (map f xs) y h) [
      | inl same ↦ (x, Contains-head x xs, sym same)
      | inr there ↦ let w = map-Contains f xs y there in (w.0, Contains-tail x xs w.0 w.1, w.2)
    ]

-- ---- joined readings

pub flat_map-append : {E A : Type 0} (f : E → List A) (xs ys : List E) → flat_map f (xs ++ ys) ≡ flat_map f xs ++ flat_map f ys
flat_map-append f [] ys = refl
flat_map-append f (e ∷ es) ys = ap (λ l. f e ++ l) (flat_map-append f es ys) ∙ sym (append_assoc (f e) (flat_map f es) (flat_map f ys))

pub flat_map-push : {E A : Type 0} (f : E → List A) (es : List E) (e : E) → flat_map f (es ++ e ∷ []) ≡ flat_map f es ++ f e
flat_map-push f es e = flat_map-append f es (e ∷ []) ∙ ap (λ l. flat_map f es ++ l) (append-nil (f e))

-- what is read is in one of the entries
pub Contains-flat_map : {E A : Type 0} (f : E → List A) (es : List E) (x : A) → Contains (flat_map f es) x
    → (before : List E) × (e : E) × (after : List E) × (es ≡ before ++ e ∷ after) × Contains (f e) x
Contains-flat_map f [] x h = absurd (Contains-none x h)
Contains-flat_map f (e ∷ es) x h =
    elim (Contains-append_cases (f e) (flat_map f es) x h) [
      | inl here ↦ ([], e, es, refl, here)
      | inr there ↦ let w = Contains-flat_map f es x there in (e ∷ w.0, w.1, w.2, ap (λ l. e ∷ l) w.3, w.4)
    ]

pub flat_map-Contains : {E A : Type 0} (f : E → List A) (es : List E) (e : E) (x : A) → Contains es e → Contains (f e) x → Contains (flat_map f es) x
flat_map-Contains f [] e x at h = absurd (Contains-none e at)
flat_map-Contains f (d ∷ es) e x at h =
    elim (head_or_tail d es e at) [
      | inl same ↦ Contains-append_left (f d) (flat_map f es) x (subst (λ k. Contains (f k) x) (sym same) h)
      | inr there ↦ Contains-append_right (f d) (flat_map f es) x (flat_map-Contains f es e x there h)
    ]

pub map-append : {A B : Type 0} (f : A → B) (xs ys : List A) → map f (xs ++ ys) ≡ map f xs ++ map f ys
map-append f [] ys = refl
map-append f (x ∷ xs) ys = ap (λ l. f x ∷ l) (map-append f xs ys)

pub list_any-append : {A : Type 0} (f : A → Bool) (xs ys : List A) → list_any f (xs ++ ys) ≡ (list_any f xs || list_any f ys)
list_any-append f [] ys = refl
list_any-append f (x ∷ xs) ys = by (f x) (list_any-append f xs ys)
  where
    by : (b : Bool) → list_any f (xs ++ ys) ≡ (list_any f xs || list_any f ys) → (b || list_any f (xs ++ ys)) ≡ ((b || list_any f xs) || list_any f ys)
    by true h = refl
    by false h = h

pub list_any-push : {A : Type 0} (f : A → Bool) (xs : List A) (x : A) → list_any f (xs ++ x ∷ []) ≡ (list_any f xs || f x)
list_any-push f xs x = list_any-append f xs (x ∷ []) ∙ ap (λ b. list_any f xs || b) (or_false (f x))
  where
    or_false : (b : Bool) → (b || false) ≡ b
    or_false true = refl
    or_false false = refl

-- ---- cuts

-- the added element is last, or the place is among the others
pub cut_at : {A : Type 0} (xs : List A) (x : A) (before : List A) (e : A) (after : List A) → xs ++ x ∷ [] ≡ before ++ e ∷ after
    → ((after ≡ []) × (before ≡ xs) × (e ≡ x)) ⊎ ((rest : List A) × (after ≡ rest ++ x ∷ []) × (xs ≡ before ++ e ∷ rest))
cut_at [] x [] e after h = let same : x ≡ e = cc in let none : after ≡ [] = cc in inl (none, refl, sym same)
cut_at [] x (b ∷ []) e after h = let bad : [] ≡ e ∷ after = cc in cc
cut_at [] x (b ∷ c ∷ before) e after h = let bad : [] ≡ c ∷ (before ++ e ∷ after) = cc in cc
cut_at (a ∷ xs) x [] e after h = let same : a ≡ e = cc in let rest : xs ++ x ∷ [] ≡ after = cc in inr (xs, sym rest, ap (λ y. y ∷ xs) same)
cut_at (a ∷ xs) x (b ∷ before) e after h =
    let same : a ≡ b = cc in
    let rest : xs ++ x ∷ [] ≡ before ++ e ∷ after = cc in
    elim (cut_at xs x before e after rest) [
      | inl w ↦ inl (w.0, ap (λ l. b ∷ l) w.1 ∙ ap (λ y. y ∷ xs) (sym same), w.2)
      | inr w ↦ inr (w.0, w.1, ap (λ y. y ∷ xs) same ∙ ap (λ l. b ∷ l) w.2)
    ]

-- one of two lists ends inside the other
pub inside : {A : Type 0} (us vs g w : List A) → us ++ vs ≡ g ++ w
    → ((m : List A) × (us ≡ g ++ m) × (m ++ vs ≡ w)) ⊎ ((x : A) × (m : List A) × (g ≡ us ++ x ∷ m) × (vs ≡ x ∷ m ++ w))
inside us vs [] w h = inl (us, refl, h)
inside [] vs (x ∷ g) w h = inr (x, g, refl, h)
inside (u ∷ us) vs (x ∷ g) w h =
    let same : u ≡ x = cc in
    let rest : us ++ vs ≡ g ++ w = cc in
    elim (inside us vs g w rest) [
      | inl k ↦ inl (k.0, ap (λ y. y ∷ us) same ∙ ap (λ l. x ∷ l) k.1, k.2)
      | inr k ↦ inr (k.0, k.1, ap (λ l. x ∷ l) k.2 ∙ ap (λ y. y ∷ (us ++ k.0 ∷ k.1)) (sym same), k.3)
    ]

-- the front of a map is the map of a front
pub cut_map : {A B : Type 0} (f : A → B) (xs : List A) (us vs : List B) → map f xs ≡ us ++ vs → (front : List A) × (back : List A) × (xs ≡ front ++ back) × (us ≡ map f front) × (vs ≡ map f back)
cut_map f xs [] vs h = ([], xs, refl, refl, sym h)
cut_map f [] (u ∷ us) vs h = let bad : [] ≡ u ∷ (us ++ vs) = h in cc
cut_map f (x ∷ xs) (u ∷ us) vs h =
    let same : f x ≡ u = cc in
    let rest : map f xs ≡ us ++ vs = cc in
    let w = cut_map f xs us vs rest in
    (x ∷ w.0, w.1, ap (λ l. x ∷ l) w.2, ap (λ y. y ∷ us) (sym same) ∙ ap (λ l. f x ∷ l) w.3, w.4)

-- ---- places

-- if every element of a list is at the same place of another list, the first is a front of the second
pub prefix_by : {A : Type 0} (xs ys : List A) → ((i : ℕ) (x : A) → slice_get xs i ≡ Some x → slice_get ys i ≡ Some x) → IsPrefix xs ys
prefix_by [] ys h = (ys, refl)
prefix_by (x ∷ xs) [] h = let bad : None ≡ Some x = h 0 x refl in cc
prefix_by (x ∷ xs) (y ∷ ys) h =
    let first : Some y ≡ Some x = h 0 x refl in
    let same : y ≡ x = cc in
    let rest = prefix_by xs ys (λ i z at. h (suc i) z at) in
    (rest.0, ap (λ z. z ∷ ys) same ∙ ap (λ l. x ∷ l) rest.1)

pub get_push : {A : Type 0} (xs : List A) (x y : A) (i : ℕ) → slice_get (xs ++ x ∷ []) i ≡ Some y → (slice_get xs i ≡ Some y) ⊎ ((i ≡ length xs) × (y ≡ x))
get_push [] x y zero h = let same : x ≡ y = cc in inr (refl, sym same)
get_push [] x y (suc i) h = let bad : None ≡ Some y = h in cc
get_push (z ∷ xs) x y zero h = inl h
get_push (z ∷ xs) x y (suc i) h = elim (get_push xs x y i h) [ inl w ↦ inl w | inr w ↦ inr (omega (arith, w.0), w.1) ]
