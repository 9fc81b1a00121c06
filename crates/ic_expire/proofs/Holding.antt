-- What is held after a step, for one packet and for one connection.
use Rattle.std.proofs.Common.{map, ◌≡◌, ◌≢◌, zero, suc, ◌⊎◌, Bool, true, false, not, cond, leb, List, [], ◌∷◌, ◌++◌, get_or, refl, sym, ap, ◌∙◌, subst, arith, inl, inr}
use Rattle.std.specs.Ordering.{is_lt}
use Rattle.std.specs.List.{All, AllPairs, Contains, filter}
use Rattle.std.proofs.lemmas.Bool.{leb-true, leb-false, le-leb, not-true, not_from_false, ne_eqb, eqb-true, cases_Bool, both_ways, and_left, false_from_ne_true}
use Rattle.std.proofs.lemmas.List.Elements.{All-map, All-filter, All-contains, All-contains_itself, filter_passes, filter-append, Contains-append_left, Contains-append_right, Contains-append_cases}
use Rattle.std.proofs.lemmas.List.Kept.{AllPairs-cons}
use Rattle.ic_expire.specs.declared.item.Item.{Item}
use Rattle.ic_expire.specs.declared.dues.Due.{Due}
use Rattle.ic_expire.specs.Items.{item_cmp, IsBefore, AreOthers, packet_of, is_due, is_of, is_upto}
use Rattle.ic_expire.specs.Queue.{EachLater, without, with_item}
use Rattle.ic_expire.specs.Laws.{PutHolds, RestHolds, DueGives, DueTakes, PutKeepsOthers, CutKeepsOthers}
use Rattle.ic_expire.proofs.Lists.{filter_none, filter_all, later_filter}
use Rattle.ic_expire.proofs.Order.{is_before_true, is_before_from, before_before}

-- ---- elements

first_or_later : {X : Type 0} (x : X) (xs : List X) (y : X) → Contains (x ∷ xs) y → (y ≡ x) ⊎ Contains xs y
first_or_later x xs y (zero, lt, e) = inl (sym e)
first_or_later x xs y (suc k, lt, e) = inr (k, omega arith, e)

is_first : {X : Type 0} (x : X) (xs : List X) → Contains (x ∷ xs) x
is_first x xs = (0, omega arith, refl)

is_later : {X : Type 0} (x : X) (xs : List X) (y : X) → Contains xs y → Contains (x ∷ xs) y
is_later x xs y (k, lt, e) = (suc k, omega arith, e)

passing : (p : Item → Bool) (xs : List Item) (y : Item) → Contains xs y → p y ≡ true → Contains (filter p xs) y
passing p [] y (k, lt, e) pass = absurd (omega arith)
passing p (x ∷ xs) y h pass =
    elim (first_or_later x xs y h) [
      | inl e ↦
          let here : p x ≡ true = ap p (sym e) ∙ pass in
          subst (λ z. Contains (filter p (x ∷ xs)) z) (sym e) (subst (λ b. Contains (cond b (x ∷ filter p xs) (filter p xs)) x) (sym here) (is_first x (filter p xs)))
      | inr later ↦ behind (p x) (passing p xs y later pass)
    ]
  where
    behind : (b : Bool) → Contains (filter p xs) y → Contains (cond b (x ∷ filter p xs) (filter p xs)) y
    behind true h = is_later x (filter p xs) y h
    behind false h = h

filtered : (p : Item → Bool) (xs : List Item) (y : Item) → Contains (filter p xs) y → Contains xs y × (p y ≡ true)
filtered p xs y h = (All-contains (Contains xs) (filter p xs) y (All-filter p (Contains xs) xs (All-contains_itself xs)) h, All-contains (λ z. p z ≡ true) (filter p xs) y (filter_passes p xs) h)

pub rest_holds : RestHolds
rest_holds held test y =
    (λ h. let both = filtered (λ z. not (test z)) held y h in (both.0, not-true (test y) both.1), λ h. passing (λ z. not (test z)) held y h.0 (not_from_false (test y) h.1))

pub put_holds : PutHolds
put_holds held x y = (
  λ h. elim (Contains-append_cases (filter before held) (x ∷ without before held) y h) [
    | inl front ↦ inr (filtered before held y front).0
    | inr back ↦ elim (first_or_later x (without before held) y back) [
      | inl e ↦ inl e
      | inr later ↦ inr (filtered (λ z. not (before z)) held y later).0
    ]
  ],
  λ h. elim h [
    | inl e ↦ subst (Contains (with_item x held)) (sym e) (Contains-append_right (filter before held) (x ∷ without before held) x (is_first x (without before held)))
    | inr was ↦ elim (cases_Bool (before y)) [
      | inl t ↦ Contains-append_left (filter before held) (x ∷ without before held) y (passing before held y was t)
      | inr f ↦ Contains-append_right (filter before held) (x ∷ without before held) y (is_later x (without before held) y (passing (λ z. not (before z)) held y was (not_from_false (before y) f)))
    ]
  ],
)
  where
    before : Item → Bool
    before z = is_lt (item_cmp z x)

-- ---- what a question gives

from_packets : (xs : List Item) (p : Due) → Contains (map packet_of xs) p → (x : Item) × Contains xs x × (packet_of x ≡ p)
from_packets [] p (k, lt, e) = absurd (omega arith)
from_packets (x ∷ xs) p h =
    elim (first_or_later (packet_of x) (map packet_of xs) p h) [
      | inl e ↦ (x, is_first x xs, sym e)
      | inr later ↦ let found = from_packets xs p later in (found.0, is_later x xs found.0 found.1, found.2)
    ]

to_packets : (xs : List Item) (x : Item) → Contains xs x → Contains (map packet_of xs) (packet_of x)
to_packets [] x (k, lt, e) = absurd (omega arith)
to_packets (y ∷ xs) x h =
    elim (first_or_later y xs x h) [
      | inl e ↦ subst (λ (p : Due). Contains (map packet_of (y ∷ xs)) p) (ap packet_of (sym e)) (is_first (packet_of y) (map packet_of xs))
      | inr later ↦ is_later (packet_of y) (map packet_of xs) (packet_of x) (to_packets xs x later)
    ]

named : (x : Item) (p : Due) → packet_of x ≡ p → x ≡ record { due = x.due; conn = p.conn; seq = p.seq }
named x p e = ap (λ (q : Due). record { due = x.due; conn = q.conn; seq = q.seq }) e

pub due_gives : DueGives
due_gives held now p = (
  λ h.
      let found = from_packets (filter (is_due now) held) p h in
      let both = filtered (is_due now) held found.0 found.1 in
      (found.0.due, subst (Contains held) (named found.0 p found.2) both.0, leb-true found.0.due now both.1),
  λ h.
      let x : Item = record { due = h.0; conn = p.conn; seq = p.seq } in
      to_packets (filter (is_due now) held) x (passing (is_due now) held x h.1 (le-leb h.0 now h.2)),
)

-- a packet that waits once waits until one tick
one_packet : (xs : List Item) (x y : Item) → EachLater AreOthers xs → Contains xs x → Contains xs y → packet_of x ≡ packet_of y → x ≡ y
one_packet [] x y once (k, lt, e) inside same = absurd (omega arith)
one_packet (z ∷ xs) x y once hx hy same =
    elim (first_or_later z xs x hx) [
      | inl ex ↦ elim (first_or_later z xs y hy) [
        | inl ey ↦ ex ∙ sym ey
        | inr later ↦ absurd (All-contains (AreOthers z) xs y once.0 later (ap packet_of (sym ex) ∙ same))
      ]
      | inr later_x ↦ elim (first_or_later z xs y hy) [
        | inl ey ↦ absurd (All-contains (AreOthers z) xs x once.0 later_x (ap packet_of (sym ey) ∙ sym same))
        | inr later_y ↦ one_packet xs x y once.1 later_x later_y same
      ]
    ]

given_once : (xs : List Item) → EachLater AreOthers xs → AllPairs (λ p q. p ≢ q) (map packet_of xs)
given_once [] once = λ i j d lt within. absurd (omega arith)
given_once (x ∷ xs) once =
    AllPairs-cons (λ p q. p ≢ q) (packet_of x) (map packet_of xs) (All-map (λ q. packet_of x ≢ q) packet_of xs once.0) (given_once xs once.1)

pub due_takes : DueTakes
due_takes held now once = (
  given_once (filter (is_due now) held) (later_filter AreOthers (is_due now) held once),
  λ p given waits.
      let taken = (due_gives held now p).0 given in
      let left = (rest_holds held (is_due now) (record { due = waits.0; conn = p.conn; seq = p.seq })).0 waits.1 in
      let same = one_packet held (record { due = taken.0; conn = p.conn; seq = p.seq }) (record { due = waits.0; conn = p.conn; seq = p.seq }) once taken.1 left.0 refl in
      omega (arith, taken.2, leb-false waits.0 now left.1, ap (λ (x : Item). x.due) same),
)

-- ---- other connections

-- items in order are those before x, and then the others
halves : (x : Item) (xs : List Item) → EachLater IsBefore xs → filter (λ y. is_lt (item_cmp y x)) xs ++ without (λ y. is_lt (item_cmp y x)) xs ≡ xs
halves x [] sorted = refl
halves x (y ∷ ys) sorted = elim (cases_Bool (is_lt (item_cmp y x))) [
  | inl t ↦ rw t (ap (λ l. y ∷ l) (halves x ys sorted.1))
  | inr f ↦
      let none : All (λ z. is_lt (item_cmp z x) ≡ false) ys = λ k d lt.
      let z = get_or ys k d in
      false_from_ne_true (is_lt (item_cmp z x)) (λ e. both_ways (is_lt (item_cmp y x)) f (is_before_from y x (before_before y z x (sorted.0 k d lt) (is_before_true z x e)))) in
      rw f (rest none)
]
  where
    rest : All (λ z. is_lt (item_cmp z x) ≡ false) ys → filter (λ z. is_lt (item_cmp z x)) ys ++ y ∷ without (λ z. is_lt (item_cmp z x)) ys ≡ y ∷ ys
    rest none = ap (λ l. l ++ y ∷ without (λ z. is_lt (item_cmp z x)) ys) (filter_none (λ z. is_lt (item_cmp z x)) ys none) ∙ ap (λ l. y ∷ l) (filter_all (λ z. not (is_lt (item_cmp z x))) ys (λ k d lt. ap not (none k d lt)))

-- a filter of a filter that keeps what it keeps
kept_again : (p q : Item → Bool) (xs : List Item) → ((y : Item) → q y ≡ true → p y ≡ true) → filter q (filter p xs) ≡ filter q xs
kept_again p q [] h = refl
kept_again p q (x ∷ xs) h = elim (cases_Bool (p x)) [
  | inl t ↦ rw t (ap (λ l. cond (q x) (x ∷ l) l) (kept_again p q xs h))
  | inr f ↦
      let not_q : q x ≡ false = false_from_ne_true (q x) (λ e. both_ways (p x) f (h x e)) in
      rw (f, not_q) (kept_again p q xs h)
]

pub put_keeps_others : PutKeepsOthers
put_keeps_others held x conn sorted other =
    let before : Item → Bool = λ y. is_lt (item_cmp y x) in
    let not_x : is_of conn x ≡ false = ne_eqb x.conn conn (λ e. other (sym e)) in
    filter-append (is_of conn) (filter before held) (x ∷ without before held)
    ∙ ap (λ b. filter (is_of conn) (filter before held) ++ cond b (x ∷ filter (is_of conn) (without before held)) (filter (is_of conn) (without before held))) not_x
    ∙ sym (filter-append (is_of conn) (filter before held) (without before held))
    ∙ ap (filter (is_of conn)) (halves x held sorted)

pub cut_keeps_others : CutKeepsOthers
cut_keeps_others held cut upto conn other =
    kept_again (λ y. not (is_upto cut upto y)) (is_of conn) held (λ y e.
    let is : y.conn ≡ conn = eqb-true y.conn conn e in
    not_from_false (is_upto cut upto y) (and_left (is_of cut y) (leb y.seq upto) (ne_eqb y.conn cut (λ same. other (sym is ∙ same)))))
