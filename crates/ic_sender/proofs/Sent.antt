-- Packets that are sealed, and those of them that were emitted.
use Rattle.std.proofs.Common.{◌≡◌, ℕ, zero, suc, ◌+◌, ◌-◌, ◌<◌, ◌≤◌, List, [], ◌∷◌, ◌++◌, length, map, Bool, true, false, Option, Some, None, refl, ap, sym, ◌∙◌, subst, arith, inl, inr, ◌⊎◌, append_assoc, append-nil, slice_get}
use Rattle.std.specs.List.{Contains}
use Rattle.std.proofs.lemmas.Bool.{cases_lt}
use Rattle.std.proofs.lemmas.List.Elements.{Contains-append_cases, Contains-append_left, Contains-append_right}
use Rattle.ic_header.specs.Packets.{RowPacket}
use Rattle.ic_law.specs.History.{number_of, greatest}
use Rattle.ic_law.specs.Filling.{Sealed, plain, filling, sealed}
use Rattle.ic_law.specs.Points.{Fills, SentUpto}
use Rattle.ic_law.specs.Timing.{row_at, rows_at, numbers_behind}
use Rattle.ic_law.proofs.Lists.{Contains-none, Contains-one, Contains-head, Contains-tail, head_or_tail, cut_at, Contains-map, map-Contains, flat_map-append}
use Rattle.ic_law.proofs.Packing.{chunks_of-filling}
use Rattle.ic_chunk.specs.Assembly.{together}

-- ---- what they carry

pub fills_by : (packet : ℕ) (puts : List (List ℕ)) (b : Bool) (finished : Type 0) → (b ≡ true → finished) → Fills puts finished (sealed (filling packet puts) b)
fills_by packet puts true finished done =
    let f = filling packet puts in
    record {
      groups = f.full;
      end = Some f.opened;
      are = refl;
      front = ([], sym (chunks_of-filling packet puts) ∙ sym (append-nil (together f.full ++ f.opened)));
      all = λ g is. let same : f.opened ≡ g = cc in (ap (λ l. together f.full ++ l) (sym same) ∙ chunks_of-filling packet puts, done refl);
    }
fills_by packet puts false finished done =
    let f = filling packet puts in
    record {
      groups = f.full;
      end = None;
      are = sym (append-nil (map plain f.full));
      front = (f.opened, sym (chunks_of-filling packet puts) ∙ ap (λ l. l ++ f.opened) (sym (append-nil (together f.full))));
      all = λ g is. cc;
    }

-- ---- packets by their numbers

pub there : (packets : List Sealed) (k : ℕ) → k < length packets → (s : Sealed) × (slice_get packets k ≡ Some s)
there [] k lt = absurd (omega (arith, lt))
there (p ∷ packets) zero lt = (p, refl)
there (p ∷ packets) (suc k) lt = there packets k (omega (arith, lt))

pub get_within : (packets : List Sealed) (k : ℕ) (s : Sealed) → slice_get packets k ≡ Some s → k < length packets
get_within [] k s h = let bad : None ≡ Some s = h in cc
get_within (p ∷ packets) zero s h = omega arith
get_within (p ∷ packets) (suc k) s h = let i = get_within packets k s h in omega (arith, i)

pub get_more : (packets more : List Sealed) (k : ℕ) → k < length packets → slice_get (packets ++ more) k ≡ slice_get packets k
get_more [] more k lt = absurd (omega (arith, lt))
get_more (p ∷ packets) more zero lt = refl
get_more (p ∷ packets) more (suc k) lt = get_more packets more k (omega (arith, lt))

pub get_end : (packets : List Sealed) (s : Sealed) → slice_get (packets ++ s ∷ []) (length packets) ≡ Some s
get_end [] s = refl
get_end (p ∷ packets) s = get_end packets s

pub rows_at-append : (packets : List Sealed) (xs ys : List ℕ) → rows_at packets (xs ++ ys) ≡ rows_at packets xs ++ rows_at packets ys
rows_at-append packets xs ys = flat_map-append (λ seq. row_at (slice_get packets (seq - 1)) seq) xs ys

-- these numbers are sealed
abbrev pub AreSealed : List Sealed → List ℕ → Type 0
AreSealed packets numbers = (n : ℕ) → Contains numbers n → (1 ≤ n) × (n ≤ length packets)

pub row_there : (packets : List Sealed) (n : ℕ) → 1 ≤ n → n ≤ length packets → (s : Sealed) × (slice_get packets (n - 1) ≡ Some s)
row_there packets n low high = there packets (n - 1) (omega (arith, low, high))

-- the packets of such numbers have these numbers
pub numbers-rows_at : (packets : List Sealed) (numbers : List ℕ) → AreSealed packets numbers → map number_of (rows_at packets numbers) ≡ numbers
numbers-rows_at packets [] are = refl
numbers-rows_at packets (n ∷ numbers) are =
    let w = are n (Contains-head n numbers) in
    let s = row_there packets n w.0 w.1 in
    ap (λ o. map number_of (row_at o n ++ rows_at packets numbers)) s.1
    ∙ ap (λ l. n ∷ l) (numbers-rows_at packets numbers (λ m h. are m (Contains-tail n numbers m h)))

-- each of them is the packet under its number
pub in_rows_at : (packets : List Sealed) (numbers : List ℕ) (p : RowPacket) → Contains (rows_at packets numbers) p → Contains numbers p.seq × (slice_get packets (p.seq - 1) ≡ Some (record { payload = p.payload; last = p.last }))
in_rows_at packets [] p h = absurd (Contains-none p h)
in_rows_at packets (n ∷ numbers) p h =
    elim (Contains-append_cases (row_at (slice_get packets (n - 1)) n) (rows_at packets numbers) p h) [
      | inl here ↦ one (slice_get packets (n - 1)) refl here
      | inr later ↦ let w = in_rows_at packets numbers p later in (Contains-tail n numbers p.seq w.0, w.1)
    ]
  where
    one : (o : Option Sealed) → slice_get packets (n - 1) ≡ o → Contains (row_at o n) p → Contains (n ∷ numbers) p.seq × (slice_get packets (p.seq - 1) ≡ Some (record { payload = p.payload; last = p.last }))
    one None e h = absurd (Contains-none p h)
    one (Some s) e h =
        let same = Contains-one (record { seq = n; payload = s.payload; last = s.last }) p h in
        subst (λ (x : RowPacket). Contains (n ∷ numbers) x.seq × (slice_get packets (x.seq - 1) ≡ Some (record { payload = x.payload; last = x.last }))) (sym same) (Contains-head n numbers, e)

-- packets that are sealed later change no earlier one
pub rows_at-more : (packets more : List Sealed) (numbers : List ℕ) → AreSealed packets numbers → rows_at (packets ++ more) numbers ≡ rows_at packets numbers
rows_at-more packets more [] are = refl
rows_at-more packets more (n ∷ numbers) are =
    let w = are n (Contains-head n numbers) in
    ap (λ o. row_at o n ++ rows_at (packets ++ more) numbers) (get_more packets more (n - 1) (omega (arith, w.0, w.1)))
    ∙ ap (λ l. row_at (slice_get packets (n - 1)) n ++ l) (rows_at-more packets more numbers (λ m h. are m (Contains-tail n numbers m h)))

-- ---- what was emitted

length-two : (xs ys : List Sealed) → length (xs ++ ys) ≡ length xs + length ys
length-two [] ys = omega arith
length-two (x ∷ xs) ys = let i = length-two xs ys in omega (arith, i)

pub length-push : (xs : List Sealed) (x : Sealed) → length (xs ++ x ∷ []) ≡ length xs + 1
length-push xs x = length-two xs (x ∷ [])

pub sent_grow : (packets more : List Sealed) (rows : List RowPacket) (k : ℕ) → SentUpto packets rows k → SentUpto (packets ++ more) rows k
sent_grow packets more rows k h = record {
  within = omega (arith, h.within, length-two packets more);
  each = λ p at. let w = h.each p at in (w.0, w.1, get_more packets more (p.seq - 1) (get_within packets (p.seq - 1) _ w.2) ∙ w.2);
  all = h.all;
  order = h.order;
}

-- the next packet, or one of those before again
Next : ℕ → ℕ → ℕ → Type 0
Next k now n = ((now ≡ k) × (n ≤ k)) ⊎ ((now ≡ k + 1) × (n ≡ k + 1))

sent_one : (packets : List Sealed) (rows : List RowPacket) (k now : ℕ) (p : RowPacket) → SentUpto packets rows k → slice_get packets (p.seq - 1) ≡ Some (record { payload = p.payload; last = p.last })
    → 1 ≤ p.seq → Next k now p.seq → SentUpto packets (rows ++ p ∷ []) now
unfolding Next
sent_one packets rows k now p h at low which = record {
  within = let i = get_within packets (p.seq - 1) _ at in elim which [ inl w ↦ omega (arith, w.0, h.within) | inr w ↦ omega (arith, w.0, w.1, i) ];
  each = λ q stands. elim (Contains-append_cases rows (p ∷ []) q stands) [
    | inl old ↦ let w = h.each q old in (w.0, up q.seq w.1, w.2)
    | inr new ↦ subst (λ (x : RowPacket). (1 ≤ x.seq) × (x.seq ≤ now) × (slice_get packets (x.seq - 1) ≡ Some (record { payload = x.payload; last = x.last }))) (sym (Contains-one p q new)) (low, mine which, at)
  ];
  all = λ n lo hi. elim (cases_lt k n) [
    | inl beyond ↦ (p, Contains-append_right rows (p ∷ []) p (Contains-head p []), next n beyond hi which)
    | inr old ↦ let w = h.all n lo old in (w.0, Contains-append_left rows (p ∷ []) w.0 w.1, w.2)
  ];
  order = λ front back q split n lo lt. elim (cut_at rows p front q back split) [
    | inl w ↦
        let same : q.seq ≡ p.seq = ap (λ (x : RowPacket). x.seq) w.2 in
        let k0 = h.all n lo (below n q.seq same lt which) in
        (k0.0, subst (λ l. Contains l k0.0) (sym w.1) k0.1, k0.2)
    | inr w ↦ h.order front w.0 q w.2 n lo lt
  ];
}
  where
    up : (n : ℕ) → n ≤ k → n ≤ now
    up n le = elim which [ inl w ↦ omega (arith, le, w.0) | inr w ↦ omega (arith, le, w.0) ]

    mine : ((now ≡ k) × (p.seq ≤ k)) ⊎ ((now ≡ k + 1) × (p.seq ≡ k + 1)) → p.seq ≤ now
    mine (inl w) = omega (arith, w.0, w.1)
    mine (inr w) = omega (arith, w.0, w.1)

    next : (n : ℕ) → k < n → n ≤ now → ((now ≡ k) × (p.seq ≤ k)) ⊎ ((now ≡ k + 1) × (p.seq ≡ k + 1)) → p.seq ≡ n
    next n beyond hi (inl w) = absurd (omega (arith, beyond, hi, w.0))
    next n beyond hi (inr w) = omega (arith, beyond, hi, w.0, w.1)

    below : (n m : ℕ) → m ≡ p.seq → n < m → ((now ≡ k) × (p.seq ≤ k)) ⊎ ((now ≡ k + 1) × (p.seq ≡ k + 1)) → n ≤ k
    below n m same lt (inl w) = omega (arith, lt, same, w.1)
    below n m same lt (inr w) = omega (arith, lt, same, w.1)

one_row : List Sealed → ℕ → List ℕ → Sealed → RowPacket
one_row packets n numbers s = record { seq = n; payload = s.payload; last = s.last }

-- packets that were emitted are emitted again
pub sent_again : (packets : List Sealed) (rows : List RowPacket) (k : ℕ) (numbers : List ℕ) → ((n : ℕ) → Contains numbers n → (1 ≤ n) × (n ≤ k)) → SentUpto packets rows k
    → SentUpto packets (rows ++ rows_at packets numbers) k
unfolding one_row Next
sent_again packets rows k [] are h = subst (λ l. SentUpto packets l k) (sym (append-nil rows)) h
sent_again packets rows k (n ∷ numbers) are h =
    let w = are n (Contains-head n numbers) in
    let s = row_there packets n w.0 (omega (arith, w.1, h.within)) in
    let p = one_row packets n numbers s.0 in
    let one = sent_one packets rows k k p h s.1 w.0 (inl (refl, w.1)) in
    let rest = sent_again packets (rows ++ p ∷ []) k numbers (λ m at. are m (Contains-tail n numbers m at)) one in
    subst (λ l. SentUpto packets l k) (append_assoc rows (p ∷ []) (rows_at packets numbers) ∙ ap (λ o. rows ++ (row_at o n ++ rows_at packets numbers)) (sym s.1)) rest

-- the next ones are emitted
pub sent_next : (packets : List Sealed) (rows : List RowPacket) (k count : ℕ) → k + count ≤ length packets → SentUpto packets rows k → SentUpto packets (rows ++ rows_at packets (numbers_behind k count)) (k + count)
unfolding one_row Next
sent_next packets rows k zero le h = subst (λ l. SentUpto packets l (k + 0)) (sym (append-nil rows)) (subst (SentUpto packets rows) (let e : k ≡ k + 0 = omega arith in e) h)
sent_next packets rows k (suc count) le h =
    let s = row_there packets (k + 1) (omega arith) (omega (arith, le)) in
    let p = one_row packets (k + 1) [] s.0 in
    let one = sent_one packets rows k (k + 1) p h s.1 (omega arith) (inr (refl, refl)) in
    let rest = sent_next packets (rows ++ p ∷ []) (k + 1) count (omega (arith, le)) one in
    subst (λ l. SentUpto packets l (k + suc count))
    (append_assoc rows (p ∷ []) (rows_at packets (numbers_behind (k + 1) count)) ∙ ap (λ o. rows ++ (row_at o (k + 1) ++ rows_at packets (numbers_behind (k + 1) count))) (sym s.1))
    (subst (SentUpto packets ((rows ++ p ∷ []) ++ rows_at packets (numbers_behind (k + 1) count))) (let e : k + 1 + count ≡ k + suc count = omega arith in e) rest)

-- ---- the greatest number

greatest_bound : (xs : List ℕ) (n : ℕ) → Contains xs n → n ≤ greatest xs
greatest_bound [] n h = absurd (Contains-none n h)
greatest_bound (x ∷ xs) n h = elim (head_or_tail x xs n h) [ inl same ↦ omega (arith, same) | inr later ↦ let i = greatest_bound xs n later in omega (arith, i) ]

greatest_least : (xs : List ℕ) (k : ℕ) → ((n : ℕ) → Contains xs n → n ≤ k) → greatest xs ≤ k
greatest_least [] k h = omega arith
greatest_least (x ∷ xs) k h =
    let i = greatest_least xs k (λ n at. h n (Contains-tail x xs n at)) in
    let j = h x (Contains-head x xs) in
    omega (arith, i, j)

pub greatest_sent : (packets : List Sealed) (rows : List RowPacket) (k : ℕ) → SentUpto packets rows k → greatest (map number_of rows) ≡ k
greatest_sent packets rows k h =
    omega (arith, greatest_least (map number_of rows) k (λ n at. let w = map-Contains number_of rows n at in let e : n ≡ w.0.seq = w.2 in let f = (h.each w.0 w.1).1 in omega (arith, e, f)), up k refl)
  where
    up : (j : ℕ) → j ≡ k → k ≤ greatest (map number_of rows)
    up zero e = omega (arith, e)
    up (suc j) e =
        let w = h.all k (omega (arith, e)) (omega arith) in
        let at = greatest_bound (map number_of rows) w.0.seq (Contains-map number_of rows w.0 w.1) in
        let same : w.0.seq ≡ k = w.2 in
        omega (arith, at, same)
