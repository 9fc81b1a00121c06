-- Lists cut where a test begins to fail, and copies put into a queue.
use Rattle.std.proofs.Common.{◌≡◌, ℕ, zero, suc, ◌+◌, ◌<◌, ◌≤◌, Bool, true, false, not, List, [], ◌∷◌, ◌++◌, length, get_or, take, drop, refl, sym, ap, ◌∙◌, subst, arith, append-nil, take-append-drop, get_or-take, get_or-drop, length-take-le, length-drop}
use Rattle.std.specs.List.{All, AllWithin, filter}
use Rattle.std.specs.List.Sorted.{IsPartitionPoint}
use Rattle.std.proofs.lemmas.List.Elements.{All-cons, All-head, All-tail, filter-append}
use Rattle.ic_wire.specs.declared.copies.Kept.{Kept}
use Rattle.ic_wire.specs.Copies.{IsUpTo, IsQueue}

-- ---- a list cut in two

pub filter_none : {X : Type 0} (p : X → Bool) (xs : List X) → All (λ y. p y ≡ false) xs → filter p xs ≡ []
filter_none p [] h = refl
filter_none p (x ∷ xs) h =
    let here : p x ≡ false = All-head (λ y. p y ≡ false) x xs h in
    rw here (filter_none p xs (All-tail (λ y. p y ≡ false) x xs h))

pub filter_all : {X : Type 0} (p : X → Bool) (xs : List X) → All (λ y. p y ≡ true) xs → filter p xs ≡ xs
filter_all p [] h = refl
filter_all p (x ∷ xs) h =
    let here : p x ≡ true = All-head (λ y. p y ≡ true) x xs h in
    rw here (ap (λ l. x ∷ l) (filter_all p xs (All-tail (λ y. p y ≡ true) x xs h)))

filter_cut : {X : Type 0} (p : X → Bool) (us vs : List X) → All (λ y. p y ≡ true) us → All (λ y. p y ≡ false) vs → filter p (us ++ vs) ≡ us
filter_cut p us vs pass fail = filter-append p us vs ∙ ap (λ l. l ++ filter p vs) (filter_all p us pass) ∙ ap (λ l. us ++ l) (filter_none p vs fail) ∙ append-nil us

filter_cut_not : {X : Type 0} (p : X → Bool) (us vs : List X) → All (λ y. p y ≡ true) us → All (λ y. p y ≡ false) vs → filter (λ y. not (p y)) (us ++ vs) ≡ vs
filter_cut_not p us vs pass fail =
    filter-append (λ y. not (p y)) us vs ∙ ap (λ l. l ++ filter (λ y. not (p y)) vs) (filter_none (λ y. not (p y)) us (λ k d lt. ap not (pass k d lt)))
    ∙ filter_all (λ y. not (p y)) vs (λ k d lt. ap not (fail k d lt))

front_of : {X : Type 0} (P : X → Type 0) (xs : List X) (i : ℕ) → i ≤ length xs → AllWithin P xs 0 i → All P (take i xs)
front_of P xs i le h = λ k d lt. let below : k < i = omega (arith, length-take-le i xs le) in subst P (sym (get_or-take i xs k d below)) (h k d (omega arith) below)

back_of : {X : Type 0} (P : X → Type 0) (xs : List X) (i : ℕ) → i ≤ length xs → AllWithin P xs i (length xs) → All P (drop i xs)
back_of P xs i le h = λ k d lt. subst P (sym (get_or-drop i xs k d)) (h (i + k) d (omega arith) (omega (arith, length-drop i xs)))

-- where the first i pass a test and the others don't, the filter gives the first i
pub cut_front : {X : Type 0} (p : X → Bool) (xs : List X) (i : ℕ) → i ≤ length xs → IsPartitionPoint (λ y. p y ≡ true) (λ y. p y ≡ false) xs i → filter p xs ≡ take i xs
cut_front p xs i le point =
    ap (filter p) (sym (take-append-drop i xs)) ∙ filter_cut p (take i xs) (drop i xs) (front_of (λ y. p y ≡ true) xs i le point.0) (back_of (λ y. p y ≡ false) xs i le point.1)

-- and without them there are the others
pub cut_back : {X : Type 0} (p : X → Bool) (xs : List X) (i : ℕ) → i ≤ length xs → IsPartitionPoint (λ y. p y ≡ true) (λ y. p y ≡ false) xs i → filter (λ y. not (p y)) xs ≡ drop i xs
cut_back p xs i le point =
    ap (filter (λ y. not (p y))) (sym (take-append-drop i xs)) ∙ filter_cut_not p (take i xs) (drop i xs) (front_of (λ y. p y ≡ true) xs i le point.0) (back_of (λ y. p y ≡ false) xs i le point.1)

-- ---- each copy and each later one

pub later_at : (xs : List Kept) → IsQueue xs → (i j : ℕ) (d : Kept) → i < j → j < length xs → IsUpTo (get_or xs i d) (get_or xs j d)
later_at [] h i j d lt within = absurd (omega arith)
later_at (x ∷ xs) h i zero d lt within = absurd (omega arith)
later_at (x ∷ xs) h zero (suc j) d lt within = h.0 j d (omega arith)
later_at (x ∷ xs) h (suc i) (suc j) d lt within = later_at xs h.1 i j d (omega arith) (omega arith)

all_between : (P : Kept → Type 0) (us vs : List Kept) (x : Kept) → P x → All P (us ++ vs) → All P (us ++ x ∷ vs)
all_between P [] vs x here h = All-cons P x vs here h
all_between P (u ∷ us) vs x here h = All-cons P u (us ++ x ∷ vs) (All-head P u (us ++ vs) h) (all_between P us vs x here (All-tail P u (us ++ vs) h))

-- a copy put between two parts of a queue, where it belongs
pub later_between : (us vs : List Kept) (x : Kept) → IsQueue (us ++ vs) → All (λ u. IsUpTo u x) us → All (IsUpTo x) vs → IsQueue (us ++ x ∷ vs)
later_between [] vs x h before behind = (behind, h)
later_between (u ∷ us) vs x h before behind =
    (all_between (IsUpTo u) us vs x (All-head (λ y. IsUpTo y x) u us before) h.0, later_between us vs x h.1 (All-tail (λ y. IsUpTo y x) u us before) behind)

pub queue_tail : (x : Kept) (xs : List Kept) → IsQueue (x ∷ xs) → IsQueue xs
queue_tail x xs h = h.1
