-- Lists: numbers that follow each other, what is found by its number, and what is read of two lists alike.
use Rattle.std.proofs.Common.{◌≡◌, ℕ, zero, suc, ◌+◌, ◌-◌, ◌<◌, ◌≤◌, List, [], ◌∷◌, ◌++◌, length, map, Bool, true, false, cond, ◌==◌, Option, Some, None, refl, ap, sym, ◌∙◌, subst, arith, inl, inr}
use Rattle.std.specs.Prelude.{nat_lt, filter, find}
use Rattle.std.specs.List.{flat_map, Contains}
use Rattle.std.proofs.lemmas.Bool.{leb-true, leb-false, le-leb, eqb-true, cases_lt}
use Rattle.std.proofs.lemmas.Bool.Decides.{Decides-eqb}
use Rattle.ic_law.specs.Timing.{numbers_behind}
use Rattle.ic_law.proofs.Lists.{Contains-none, Contains-head, Contains-tail, head_or_tail, Contains-map}

-- ---- numbers behind a number

pub in_behind : (a k n : ℕ) → Contains (numbers_behind a k) n → (a < n) × (n ≤ a + k)
in_behind a zero n h = absurd (Contains-none n h)
in_behind a (suc k) n h =
    elim (head_or_tail (a + 1) (numbers_behind (a + 1) k) n h) [
      | inl same ↦ (omega (arith, same), omega (arith, same))
      | inr there ↦ let w = in_behind (a + 1) k n there in (omega (arith, w.0), omega (arith, w.1))
    ]

pub behind_has : (a k n : ℕ) → a < n → n ≤ a + k → Contains (numbers_behind a k) n
behind_has a zero n low high = absurd (omega (arith, low, high))
behind_has a (suc k) n low high =
    elim (cases_lt (a + 1) n) [
      | inl lt ↦ Contains-tail (a + 1) (numbers_behind (a + 1) k) n (behind_has (a + 1) k n lt (omega (arith, high)))
      | inr ge ↦ let same : a + 1 ≡ n = omega (arith, low, ge) in subst (Contains (numbers_behind a (suc k))) same (Contains-head (a + 1) (numbers_behind (a + 1) k))
    ]

pub behind-append : (a j k : ℕ) → numbers_behind a (j + k) ≡ numbers_behind a j ++ numbers_behind (a + j) k
behind-append a zero k = ap (numbers_behind a) (let e : 0 + k ≡ k = omega arith in e) ∙ ap (λ b. numbers_behind b k) (let e : a ≡ a + 0 = omega arith in e)
behind-append a (suc j) k =
    ap (numbers_behind a) (let e : suc j + k ≡ suc (j + k) = omega arith in e)
    ∙ ap (λ l. (a + 1) ∷ l) (behind-append (a + 1) j k)
    ∙ ap (λ b. numbers_behind a (suc j) ++ numbers_behind b k) (let e : a + 1 + j ≡ a + suc j = omega arith in e)

-- one number more at the end
pub behind-push : (a k : ℕ) → numbers_behind a (k + 1) ≡ numbers_behind a k ++ (a + k + 1) ∷ []
behind-push a k = behind-append a k 1

is_lt : (a b : ℕ) → a < b → nat_lt a b ≡ true
is_lt a b lt = le-leb (suc a) b (omega (arith, lt))

pub not_lt : (a b : ℕ) → b ≤ a → nat_lt a b ≡ false
not_lt a b le = by (nat_lt a b) refl
  where
    by : (x : Bool) → nat_lt a b ≡ x → nat_lt a b ≡ false
    by false e = e
    by true e = absurd (omega (arith, leb-true (suc a) b e, le))

pub lt_yes : (a b : ℕ) → a < b → nat_lt a b ≡ true
lt_yes a b lt = is_lt a b lt

pub lt_of : (a b : ℕ) → nat_lt a b ≡ true → a < b
lt_of a b e = let le = leb-true (suc a) b e in omega (arith, le)

pub not_lt_of : (a b : ℕ) → nat_lt a b ≡ false → b ≤ a
not_lt_of a b e = let lt = leb-false (suc a) b e in omega (arith, lt)

filter_all_behind : (b a k : ℕ) → b ≤ a → filter (nat_lt b) (numbers_behind a k) ≡ numbers_behind a k
filter_all_behind b a zero le = refl
filter_all_behind b a (suc k) le =
    ap (λ x. cond x ((a + 1) ∷ filter (nat_lt b) (numbers_behind (a + 1) k)) (filter (nat_lt b) (numbers_behind (a + 1) k))) (is_lt b (a + 1) (omega (arith, le)))
    ∙ ap (λ l. (a + 1) ∷ l) (filter_all_behind b (a + 1) k (omega (arith, le)))

-- those above a number are those behind it
pub behind_above : (b a k : ℕ) → a ≤ b → b ≤ a + k → filter (nat_lt b) (numbers_behind a k) ≡ numbers_behind b (a + k - b)
behind_above b a zero low high = ap (numbers_behind b) (let e : 0 ≡ a + 0 - b = omega (arith, low, high) in e)
behind_above b a (suc k) low high =
    elim (cases_lt a b) [
      | inl lt ↦
          ap (λ x. cond x ((a + 1) ∷ filter (nat_lt b) (numbers_behind (a + 1) k)) (filter (nat_lt b) (numbers_behind (a + 1) k))) (not_lt b (a + 1) (omega (arith, lt)))
          ∙ behind_above b (a + 1) k (omega (arith, lt)) (omega (arith, high)) ∙ ap (numbers_behind b) (let e : a + 1 + k - b ≡ a + suc k - b = omega arith in e)
      | inr ge ↦
          let same : b ≡ a = omega (arith, low, ge) in
          filter_all_behind b a (suc k) (omega (arith, same)) ∙ ap (λ x. numbers_behind x (suc k)) (sym same)
          ∙ ap (numbers_behind b) (let e : suc k ≡ a + suc k - b = omega (arith, same) in e)
    ]

-- ---- filters, maps and joined readings

pub map_filter : {A B : Type 0} (p : B → Bool) (g : A → B) (xs : List A) → map g (filter (λ x. p (g x)) xs) ≡ filter p (map g xs)
map_filter p g [] = refl
map_filter p g (x ∷ xs) = by (p (g x)) (map_filter p g xs)
  where
    by : (b : Bool) → map g (filter (λ y. p (g y)) xs) ≡ filter p (map g xs) → map g (cond b (x ∷ filter (λ y. p (g y)) xs) (filter (λ y. p (g y)) xs)) ≡ cond b (g x ∷ filter p (map g xs)) (filter p (map g xs))
    by true h = ap (λ l. g x ∷ l) h
    by false h = h

pub map_map : {A B C : Type 0} (f : B → C) (g : A → B) (xs : List A) → map f (map g xs) ≡ map (λ x. f (g x)) xs
map_map f g [] = refl
map_map f g (x ∷ xs) = ap (λ l. f (g x) ∷ l) (map_map f g xs)

-- maps that agree on each element
pub map_same : {A B : Type 0} (f g : A → B) (xs : List A) → ((x : A) → Contains xs x → f x ≡ g x) → map f xs ≡ map g xs
map_same f g [] h = refl
map_same f g (x ∷ xs) h = ap (λ y. y ∷ map f xs) (h x (Contains-head x xs)) ∙ ap (λ l. g x ∷ l) (map_same f g xs (λ y there. h y (Contains-tail x xs y there)))

pub map_self : {A : Type 0} (f : A → A) (xs : List A) → ((x : A) → f x ≡ x) → map f xs ≡ xs
map_self f [] h = refl
map_self f (x ∷ xs) h = ap (λ y. y ∷ map f xs) (h x) ∙ ap (λ l. x ∷ l) (map_self f xs h)

pub joined_same : {A B : Type 0} (f g : A → List B) (xs : List A) → ((x : A) → Contains xs x → f x ≡ g x) → flat_map f xs ≡ flat_map g xs
joined_same f g [] h = refl
joined_same f g (x ∷ xs) h = ap (λ l. l ++ flat_map f xs) (h x (Contains-head x xs)) ∙ ap (λ l. g x ++ l) (joined_same f g xs (λ y there. h y (Contains-tail x xs y there)))

pub joined_map : {A B C : Type 0} (f : B → List C) (g : A → B) (xs : List A) → flat_map f (map g xs) ≡ flat_map (λ x. f (g x)) xs
joined_map f g [] = refl
joined_map f g (x ∷ xs) = ap (λ l. f (g x) ++ l) (joined_map f g xs)

map-two : {A B : Type 0} (g : A → B) (us vs : List A) → map g (us ++ vs) ≡ map g us ++ map g vs
map-two g [] vs = refl
map-two g (u ∷ us) vs = ap (λ l. g u ∷ l) (map-two g us vs)

pub map_joined : {A B C : Type 0} (g : B → C) (f : A → List B) (xs : List A) → map g (flat_map f xs) ≡ flat_map (λ x. map g (f x)) xs
map_joined g f [] = refl
map_joined g f (x ∷ xs) = map-two g (f x) (flat_map f xs) ∙ ap (λ l. map g (f x) ++ l) (map_joined g f xs)

-- what passes a filter
pub in_filter : {A : Type 0} (p : A → Bool) (xs : List A) (x : A) → Contains (filter p xs) x → Contains xs x × (p x ≡ true)
in_filter p [] x h = absurd (Contains-none x h)
in_filter p (y ∷ xs) x h = by (in_filter p xs x) (p y) refl h
  where
    by : (Contains (filter p xs) x → Contains xs x × (p x ≡ true)) → (b : Bool) → p y ≡ b → Contains (cond b (y ∷ filter p xs) (filter p xs)) x → Contains (y ∷ xs) x × (p x ≡ true)
    by more true e there =
        elim (head_or_tail y (filter p xs) x there) [
          | inl same ↦ (subst (Contains (y ∷ xs)) same (Contains-head y xs), ap p (sym same) ∙ e)
          | inr rest ↦ let w = more rest in (Contains-tail y xs x w.0, w.1)
        ]
    by more false e there = let w = more there in (Contains-tail y xs x w.0, w.1)

pub filter_has : {A : Type 0} (p : A → Bool) (xs : List A) (x : A) → Contains xs x → p x ≡ true → Contains (filter p xs) x
filter_has p [] x h pass = absurd (Contains-none x h)
filter_has p (y ∷ xs) x h pass =
    elim (head_or_tail y xs x h) [
      | inl same ↦ subst (λ b. Contains (cond b (y ∷ filter p xs) (filter p xs)) x) (sym (ap p same ∙ pass)) (subst (Contains (y ∷ filter p xs)) same (Contains-head y (filter p xs)))
      | inr there ↦ by (p y) (filter_has p xs x there pass)
    ]
  where
    by : (b : Bool) → Contains (filter p xs) x → Contains (cond b (y ∷ filter p xs) (filter p xs)) x
    by true there = Contains-tail y (filter p xs) x there
    by false there = there

-- ---- what is found by its number

pub same_number : (k : ℕ) → (k == k) ≡ true
same_number k = (Decides-eqb k k).1 refl

pub find_same : {A : Type 0} (seq : A → ℕ) (xs : List A) (n : ℕ) (x : A) → find (λ y. seq y == n) xs ≡ Some x → Contains xs x × (seq x ≡ n)
find_same seq [] n x h = let bad : None ≡ Some x = h in cc
find_same seq (y ∷ xs) n x h = by (find_same seq xs n x) (seq y == n) refl h
  where
    by : (find (λ z. seq z == n) xs ≡ Some x → Contains xs x × (seq x ≡ n)) → (b : Bool) → (seq y == n) ≡ b → cond b (Some y) (find (λ z. seq z == n) xs) ≡ Some x → Contains (y ∷ xs) x × (seq x ≡ n)
    by more true e h = let same : y ≡ x = cc in (subst (Contains (y ∷ xs)) same (Contains-head y xs), ap seq (sym same) ∙ eqb-true (seq y) n e)
    by more false e h = let w = more h in (Contains-tail y xs x w.0, w.1)

pub find_there : {A : Type 0} (seq : A → ℕ) (xs : List A) (n : ℕ) → Contains (map seq xs) n → (x : A) × (find (λ y. seq y == n) xs ≡ Some x)
find_there seq [] n h = absurd (Contains-none n h)
find_there {A = A} seq (y ∷ xs) n h = by (find_there seq xs n) (seq y == n) refl
  where
    by : (Contains (map seq xs) n → (x : A) × (find (λ z. seq z == n) xs ≡ Some x)) → (b : Bool) → (seq y == n) ≡ b → (x : A) × (cond b (Some y) (find (λ z. seq z == n) xs) ≡ Some x)
    by more true e = (y, refl)
    by more false e =
        elim (head_or_tail (seq y) (map seq xs) n h) [
          | inl same ↦ absurd (let here : (seq y == n) ≡ true = subst (λ k. (seq y == k) ≡ true) same (same_number (seq y)) in let bad : true ≡ false = sym here ∙ e in cc)
          | inr there ↦ more there
        ]

pub find_none : {A : Type 0} (seq : A → ℕ) (xs : List A) (n : ℕ) → (Contains (map seq xs) n → ⊥) → find (λ y. seq y == n) xs ≡ None
find_none {A = A} seq xs n h = by (find (λ y. seq y == n) xs) refl
  where
    by : (o : Option A) → find (λ y. seq y == n) xs ≡ o → find (λ y. seq y == n) xs ≡ None
    by None e = e
    by (Some x) e = let w = find_same seq xs n x e in absurd (h (subst (Contains (map seq xs)) w.1 (Contains-map seq xs x w.0)))

pub find_append : {A : Type 0} (p : A → Bool) (xs ys : List A) (x : A) → find p xs ≡ Some x → find p (xs ++ ys) ≡ Some x
find_append p [] ys x h = let bad : None ≡ Some x = h in cc
find_append p (y ∷ xs) ys x h = by (find_append p xs ys x) (p y) h
  where
    by : (find p xs ≡ Some x → find p (xs ++ ys) ≡ Some x) → (b : Bool) → cond b (Some y) (find p xs) ≡ Some x → cond b (Some y) (find p (xs ++ ys)) ≡ Some x
    by more true h = h
    by more false h = more h

pub find_behind : {A : Type 0} (p : A → Bool) (xs ys : List A) → find p xs ≡ None → find p (xs ++ ys) ≡ find p ys
find_behind p [] ys h = refl
find_behind p (y ∷ xs) ys h = by (find_behind p xs ys) (p y) h
  where
    by : (find p xs ≡ None → find p (xs ++ ys) ≡ find p ys) → (b : Bool) → cond b (Some y) (find p xs) ≡ None → cond b (Some y) (find p (xs ++ ys)) ≡ find p ys
    by more true h = let bad : Some y ≡ None = h in cc
    by more false h = more h

-- a filter that the number passes doesn't change what is found
pub find_filter : {A : Type 0} (seq : A → ℕ) (q : ℕ → Bool) (xs : List A) (n : ℕ) → q n ≡ true → find (λ y. seq y == n) (filter (λ y. q (seq y)) xs) ≡ find (λ y. seq y == n) xs
find_filter seq q [] n pass = refl
find_filter seq q (y ∷ xs) n pass = by (q (seq y)) refl (find_filter seq q xs n pass)
  where
    absent : (b : Bool) → (seq y == n) ≡ b → q (seq y) ≡ false → find (λ z. seq z == n) xs ≡ cond b (Some y) (find (λ z. seq z == n) xs)
    absent false e fails = refl
    absent true e fails = absurd (let same : seq y ≡ n = eqb-true (seq y) n e in let bad : true ≡ false = sym pass ∙ ap q (sym same) ∙ fails in cc)

    by : (b : Bool) → q (seq y) ≡ b → find (λ z. seq z == n) (filter (λ z. q (seq z)) xs) ≡ find (λ z. seq z == n) xs
        → find (λ z. seq z == n) (cond b (y ∷ filter (λ z. q (seq z)) xs) (filter (λ z. q (seq z)) xs)) ≡ cond (seq y == n) (Some y) (find (λ z. seq z == n) xs)
    by true e h = ap (λ o. cond (seq y == n) (Some y) o) h
    by false e h = h ∙ absent (seq y == n) refl e

pub length-map : {A B : Type 0} (f : A → B) (xs : List A) → length (map f xs) ≡ length xs
length-map f [] = refl
length-map f (x ∷ xs) = ap suc (length-map f xs)

pub length-behind : (a k : ℕ) → length (numbers_behind a k) ≡ k
length-behind a zero = refl
length-behind a (suc k) = ap suc (length-behind (a + 1) k)
