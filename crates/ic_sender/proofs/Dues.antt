-- The numbers that are due at a tick, and what waits after it.
use Rattle.std.proofs.Common.{◌≡◌, ℕ, zero, suc, ◌+◌, ◌<◌, ◌≤◌, List, [], ◌∷◌, map, Bool, true, false, cond, ◌||◌, ◌==◌, Some, refl, ap, sym, ◌∙◌, subst, arith, inl, inr, ◌⊎◌}
use Rattle.std.specs.Prelude.{filter, find}
use Rattle.std.specs.List.{Contains, list_any}
use Rattle.std.proofs.lemmas.Bool.{cases_Bool, leb-true, le-leb, eqb-true}
use Rattle.ic_expire.specs.declared.item.Item.{Item}
use Rattle.ic_expire.specs.Items.{is_of}
use Rattle.ic_expire.specs.Queue.{with_item, held_of, dues_of}
use Rattle.ic_expire.proofs.Holding.{put_holds, due_gives}
use Rattle.ic_law.specs.Numbers.{IsIncreasingFrom}
use Rattle.ic_law.specs.Timers.{Timer, is_due, due_numbers, wait_in}
use Rattle.ic_law.specs.Timing.{numbers_behind}
use Rattle.ic_law.proofs.Lists.{Contains-none, Contains-head, Contains-tail, head_or_tail, Contains-map, map-Contains}
use Rattle.ic_sender.specs.declared.flight.Flight.{Flight}
use Rattle.ic_sender.specs.Sending.{Sending, flight_at, tries_of, waits_longer}
use Rattle.ic_sender.specs.Standing.{Alike, item_of}
use Rattle.ic_sender.proofs.Lists.{in_filter, filter_has, same_number}

-- ---- numbers that increase

pub increasing_bound : (a : ℕ) (xs : List ℕ) (n : ℕ) → IsIncreasingFrom a xs → Contains xs n → a ≤ n
increasing_bound a [] n inc at = absurd (Contains-none n at)
increasing_bound a (x ∷ xs) n inc at =
    elim (head_or_tail x xs n at) [ inl same ↦ omega (arith, inc.0, same) | inr later ↦ let i = increasing_bound (x + 1) xs n inc.1 later in omega (arith, i, inc.0) ]

pub increasing_less : (a b : ℕ) (xs : List ℕ) → a ≤ b → IsIncreasingFrom b xs → IsIncreasingFrom a xs
increasing_less a b [] le inc = tt
increasing_less a b (x ∷ xs) le inc = (omega (arith, le, inc.0), inc.1)

pub behind_increasing : (a k : ℕ) → IsIncreasingFrom (a + 1) (numbers_behind a k)
behind_increasing a zero = tt
behind_increasing a (suc k) = (omega arith, behind_increasing (a + 1) k)

-- increasing lists of the same numbers are one
pub increasing_same : (a : ℕ) (xs ys : List ℕ) → IsIncreasingFrom a xs → IsIncreasingFrom a ys → ((n : ℕ) → Contains xs n → Contains ys n) → ((n : ℕ) → Contains ys n → Contains xs n) → xs ≡ ys
increasing_same a [] [] ix iy to from = refl
increasing_same a [] (y ∷ ys) ix iy to from = absurd (Contains-none y (from y (Contains-head y ys)))
increasing_same a (x ∷ xs) [] ix iy to from = absurd (Contains-none x (to x (Contains-head x xs)))
increasing_same a (x ∷ xs) (y ∷ ys) ix iy to from =
    let le = increasing_bound y (y ∷ ys) x (omega arith, iy.1) (to x (Contains-head x xs)) in
    let ge = increasing_bound x (x ∷ xs) y (omega arith, ix.1) (from y (Contains-head y ys)) in
    let same : x ≡ y = omega (arith, le, ge) in
    let rest = increasing_same (x + 1) xs ys ix.1 (subst (λ n. IsIncreasingFrom (n + 1) ys) (sym same) iy.1)
    (λ n at. elim (head_or_tail y ys n (to n (Contains-tail x xs n at))) [
      | inl is ↦ absurd (let b = increasing_bound (x + 1) xs n ix.1 at in omega (arith, b, is, same))
      | inr later ↦ later
    ])
    (λ n at. elim (head_or_tail x xs n (from n (Contains-tail y ys n at))) [
      | inl is ↦ absurd (let b = increasing_bound (y + 1) ys n iy.1 at in omega (arith, b, is, same))
      | inr later ↦ later
    ]) in
    ap (λ n. n ∷ xs) same ∙ ap (λ l. y ∷ l) rest

increasing_filter : {A : Type 0} (seq : A → ℕ) (p : A → Bool) (a : ℕ) (xs : List A) → IsIncreasingFrom a (map seq xs) → IsIncreasingFrom a (map seq (filter p xs))
increasing_filter seq p a [] inc = tt
increasing_filter seq p a (x ∷ xs) inc = by (p x) (increasing_filter seq p (seq x + 1) xs inc.1)
  where
    by : (b : Bool) → IsIncreasingFrom (seq x + 1) (map seq (filter p xs)) → IsIncreasingFrom a (map seq (cond b (x ∷ filter p xs) (filter p xs)))
    by true rest = (inc.0, rest)
    by false rest = increasing_less a (seq x + 1) (map seq (filter p xs)) (omega (arith, inc.0)) rest

no_such : (a : ℕ) (xs : List ℕ) (n : ℕ) → IsIncreasingFrom a xs → n < a → list_any (λ m. m == n) xs ≡ false
no_such a [] n inc lt = refl
no_such a (x ∷ xs) n inc lt = elim (cases_Bool (x == n)) [
  | inl is ↦ absurd (let same = eqb-true x n is in omega (arith, same, inc.0, lt))
  | inr other ↦ ap (λ b. b || list_any (λ m. m == n) xs) other ∙ no_such (x + 1) xs n inc.1 (omega (arith, inc.0, lt))
]

-- whether its number is among those that pass is whether it passes
pub passes_among : {A : Type 0} (seq : A → ℕ) (p : A → Bool) (a : ℕ) (xs : List A) (x : A) → IsIncreasingFrom a (map seq xs) → Contains xs x → list_any (λ m. m == seq x) (map seq (filter p xs)) ≡ p x
passes_among seq p a [] x inc at = absurd (Contains-none x at)
passes_among seq p a (y ∷ ys) x inc at =
    elim (head_or_tail y ys x at) [
      | inl same ↦ subst (λ z. list_any (λ m. m == seq z) (map seq (cond (p y) (y ∷ filter p ys) (filter p ys))) ≡ p z) same (here (p y))
      | inr later ↦ there (p y) later (passes_among seq p (seq y + 1) ys x inc.1 later)
    ]
  where
    here : (b : Bool) → list_any (λ m. m == seq y) (map seq (cond b (y ∷ filter p ys) (filter p ys))) ≡ b
    here true = ap (λ b. b || list_any (λ m. m == seq y) (map seq (filter p ys))) (same_number (seq y))
    here false = no_such (seq y + 1) (map seq (filter p ys)) (seq y) (increasing_filter seq p (seq y + 1) ys inc.1) (omega arith)

    there : (b : Bool) → Contains ys x → list_any (λ m. m == seq x) (map seq (filter p ys)) ≡ p x → list_any (λ m. m == seq x) (map seq (cond b (y ∷ filter p ys) (filter p ys))) ≡ p x
    there false later rest = rest
    there true later rest =
        let beyond = increasing_bound (seq y + 1) (map seq ys) (seq x) inc.1 (Contains-map seq ys x later) in
        elim (cases_Bool (seq y == seq x)) [
          | inl is ↦ absurd (let same = eqb-true (seq y) (seq x) is in omega (arith, same, beyond))
          | inr other ↦ ap (λ b. b || list_any (λ m. m == seq x) (map seq (filter p ys))) other ∙ rest
        ]

-- an element is found by its number
pub find_itself : {A : Type 0} (seq : A → ℕ) (a : ℕ) (xs : List A) (x : A) → IsIncreasingFrom a (map seq xs) → Contains xs x → find (λ y. seq y == seq x) xs ≡ Some x
find_itself seq a [] x inc at = absurd (Contains-none x at)
find_itself seq a (y ∷ ys) x inc at =
    elim (head_or_tail y ys x at) [
      | inl same ↦ subst (λ z. find (λ w. seq w == seq z) (y ∷ ys) ≡ Some z) same (ap (λ b. cond b (Some y) (find (λ w. seq w == seq y) ys)) (same_number (seq y)))
      | inr later ↦ there later (find_itself seq (seq y + 1) ys x inc.1 later)
    ]
  where
    there : Contains ys x → find (λ w. seq w == seq x) ys ≡ Some x → find (λ w. seq w == seq x) (y ∷ ys) ≡ Some x
    there later rest =
        let beyond = increasing_bound (seq y + 1) (map seq ys) (seq x) inc.1 (Contains-map seq ys x later) in
        elim (cases_Bool (seq y == seq x)) [
          | inl is ↦ absurd (let same = eqb-true (seq y) (seq x) is in omega (arith, same, beyond))
          | inr other ↦ ap (λ b. cond b (Some y) (find (λ w. seq w == seq x) ys)) other ∙ rest
        ]

-- ---- timers by their flights

pub alike_seqs : (R : Flight → Timer → Type 0) (fs : List Flight) (ts : List Timer) → ((f : Flight) (t : Timer) → R f t → t.seq ≡ f.seq) → Alike R fs ts → map (λ (t : Timer). t.seq) ts ≡ map (λ (f : Flight). f.seq) fs
alike_seqs R [] [] same h = refl
alike_seqs R [] (t ∷ ts) same h = absurd h
alike_seqs R (f ∷ fs) [] same h = absurd h
alike_seqs R (f ∷ fs) (t ∷ ts) same h = ap (λ n. n ∷ map (λ (x : Timer). x.seq) ts) (same f t h.0) ∙ ap (λ l. f.seq ∷ l) (alike_seqs R fs ts same h.1)

-- each timer has its flight
pub alike_timer : (R : Flight → Timer → Type 0) (fs : List Flight) (ts : List Timer) (t : Timer) → Alike R fs ts → Contains ts t → (f : Flight) × Contains fs f × R f t
alike_timer R [] [] t h at = absurd (Contains-none t at)
alike_timer R [] (u ∷ ts) t h at = absurd h
alike_timer R (f ∷ fs) [] t h at = absurd h
alike_timer R (f ∷ fs) (u ∷ ts) t h at =
    elim (head_or_tail u ts t at) [
      | inl same ↦ (f, Contains-head f fs, subst (R f) same h.0)
      | inr later ↦ let w = alike_timer R fs ts t h.1 later in (w.0, Contains-tail f fs w.0 w.1, w.2)
    ]

pub seqs_increase : (acked k : ℕ) (ts : List Timer) (fs : List Flight) → map (λ (t : Timer). t.seq) ts ≡ map (λ (f : Flight). f.seq) fs → map (λ (f : Flight). f.seq) fs ≡ numbers_behind acked k → IsIncreasingFrom (acked + 1) (map (λ (t : Timer). t.seq) ts)
seqs_increase acked k ts fs same are = subst (IsIncreasingFrom (acked + 1)) (sym (same ∙ are)) (behind_increasing acked k)

-- the numbers that the queue gives for a connection are those of the timers that are due
pub numbers_due : (conn now acked : ℕ) (held : List Item) (ts : List Timer) (numbers : List ℕ) → IsIncreasingFrom (acked + 1) (map (λ (t : Timer). t.seq) ts) → IsIncreasingFrom 1 numbers
    → ((n : ℕ) → Contains numbers n → Contains (dues_of now held) (record { conn = conn; seq = n })) → ((n : ℕ) → Contains (dues_of now held) (record { conn = conn; seq = n }) → Contains numbers n)
    → ((t : Timer) → Contains ts t → Contains held (item_of conn t)) → ((y : Item) → Contains held y → y.conn ≡ conn → (x : Timer) × Contains ts x × (y ≡ item_of conn x)) → numbers ≡ due_numbers now ts
numbers_due conn now acked held ts numbers inc inc_numbers to from waits alone =
    increasing_same 1 numbers (due_numbers now ts) inc_numbers (increasing_less 1 (acked + 1) (due_numbers now ts) (omega arith) (increasing_filter (λ (t : Timer). t.seq) (is_due now) (acked + 1) ts inc))
    (λ n at.
    let w = (due_gives held now (record { conn = conn; seq = n })).0 (to n at) in
    let x = alone (record { due = w.0; conn = conn; seq = n }) w.1 refl in
    let seq : n ≡ x.0.seq = ap (λ (z : Item). z.seq) x.2 in
    let due : w.0 ≡ x.0.due = ap (λ (z : Item). z.due) x.2 in
    let pass = filter_has (is_due now) ts x.0 x.1 (le-leb x.0.due now (omega (arith, due, w.2))) in
    subst (Contains (due_numbers now ts)) (sym seq) (Contains-map (λ (t : Timer). t.seq) (filter (is_due now) ts) x.0 pass))
    (λ n at.
    let w = map-Contains (λ (t : Timer). t.seq) (filter (is_due now) ts) n at in
    let x = in_filter (is_due now) ts w.0 w.1 in
    let le = leb-true w.0.due now x.1 in
    from n ((due_gives held now (record { conn = conn; seq = n })).1 (w.0.due, subst (λ (k : ℕ). Contains held (record { due = w.0.due; conn = conn; seq = k })) (sym w.2) (waits w.0 x.0), le)))

-- ---- what waits for one connection

pub to_conn : (conn : ℕ) (held : List Item) (y : Item) → Contains held y → y.conn ≡ conn → Contains (held_of conn held) y
to_conn conn held y at mine = filter_has (is_of conn) held y at (ap (λ n. n == conn) mine ∙ same_number conn)

pub from_conn : (conn : ℕ) (held : List Item) (y : Item) → Contains (held_of conn held) y → Contains held y
from_conn conn held y at = (in_filter (is_of conn) held y at).0

-- the item of a packet that is emitted again
abbrev pub later_item : ℕ → Sending → ℕ → Item
later_item now s n = record { due = now + wait_in s.window (tries_of (flight_at s.flights n) + 1); conn = s.conn; seq = n }

pub longer_keeps : (now : ℕ) (s : Sending) (numbers : List ℕ) (held : List Item) (y : Item) → Contains held y → Contains (waits_longer now s numbers held) y
longer_keeps now s [] held y at = at
longer_keeps now s (n ∷ numbers) held y at = longer_keeps now s numbers (with_item (later_item now s n) held) y ((put_holds held (later_item now s n) y).1 (inr at))

pub longer_has : (now : ℕ) (s : Sending) (numbers : List ℕ) (held : List Item) (n : ℕ) → Contains numbers n → Contains (waits_longer now s numbers held) (later_item now s n)
longer_has now s [] held n at = absurd (Contains-none n at)
longer_has now s (m ∷ numbers) held n at =
    elim (head_or_tail m numbers n at) [
      | inl same ↦ longer_keeps now s numbers (with_item (later_item now s m) held) (later_item now s n)
          (subst (λ k. Contains (with_item (later_item now s m) held) (later_item now s k)) same ((put_holds held (later_item now s m) (later_item now s m)).1 (inl refl)))
      | inr later ↦ longer_has now s numbers (with_item (later_item now s m) held) n later
    ]

pub longer_is : (now : ℕ) (s : Sending) (numbers : List ℕ) (held : List Item) (y : Item) → Contains (waits_longer now s numbers held) y → Contains held y ⊎ ((n : ℕ) × Contains numbers n × (y ≡ later_item now s n))
longer_is now s [] held y at = inl at
longer_is now s (m ∷ numbers) held y at =
    elim (longer_is now s numbers (with_item (later_item now s m) held) y at) [
      | inl old ↦ elim ((put_holds held (later_item now s m) y).0 old) [ inl same ↦ inr (m, Contains-head m numbers, same) | inr older ↦ inl older ]
      | inr new ↦ inr (new.0, Contains-tail m numbers new.0 new.1, new.2)
    ]
