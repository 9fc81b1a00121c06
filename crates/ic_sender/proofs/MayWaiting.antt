-- Packets that begin to wait, one after the other.
use Rattle.std.proofs.Common.{◌≡◌, ℕ, zero, suc, ◌+◌, ◌<◌, ◌≤◌, List, [], ◌∷◌, ◌++◌, length, map, drop, Bool, true, false, not, cond, Option, Some, None, refl, ap, sym, ◌∙◌, subst, arith, slice_index_or, inl, inr}
use Rattle.std.specs.Prelude.{filter, find}
use Rattle.std.specs.Ordering.{is_lt}
use Rattle.std.specs.List.{AllByRecursion}
use Rattle.ic_base.specs.declared.keys.ConnEnd.{ConnEnd}
use Rattle.ic_expire.specs.declared.item.Item.{Item}
use Rattle.ic_expire.specs.Items.{item_cmp}
use Rattle.ic_expire.specs.Queue.{Queue, IsHeld, with_item, without}
use Rattle.ic_expire.proofs.Holding.{put_holds, rest_holds}
use Rattle.ic_header.specs.Packets.{RowPacket}
use Rattle.ic_law.specs.Numbers.{IsIncreasingFrom}
use Rattle.ic_law.specs.Timing.{numbers_behind}
use Rattle.ic_law.proofs.Lists.{Contains-head, Contains-tail}
use Rattle.ic_sender.specs.declared.flight.Flight.{Flight}
use Rattle.ic_sender.specs.Sending.{row_of, kept_at, rows_kept, flight_of}
use Rattle.ic_sender.specs.Views.{MayWait}
use Rattle.ic_sender.proofs.Lists.{map_map, find_same}
use Rattle.ic_sender.proofs.Dues.{increasing_less, increasing_bound}

-- what is left of a list begins with the next element
pub next_left : {A : Type 0} (xs : List A) (i : ℕ) (x : A) → i < length xs → x ≡ slice_index_or xs i x → drop i xs ≡ x ∷ drop (i + 1) xs
next_left [] i x lt is = absurd (omega (arith, lt))
next_left (y ∷ ys) zero x lt is = ap (λ z. z ∷ ys) (sym is)
next_left (y ∷ ys) (suc i) x lt is = next_left ys i x (omega (arith, lt)) is ∙ ap (λ k. x ∷ drop k (y ∷ ys)) (let e : suc (i + 1) ≡ suc i + 1 = omega arith in e)

split_length : (p : Item → Bool) (held : List Item) → length (filter p held) + length (filter (λ y. not (p y)) held) ≡ length held
split_length p [] = omega arith
split_length p (x ∷ held) = by (p x) (split_length p held)
  where
    by : (b : Bool) → length (filter p held) + length (filter (λ y. not (p y)) held) ≡ length held
        → length (cond b (x ∷ filter p held) (filter p held)) + length (cond (not b) (x ∷ filter (λ y. not (p y)) held) (filter (λ y. not (p y)) held)) ≡ length (x ∷ held)
    by true h = omega (arith, h)
    by false h = omega (arith, h)

length-two : (xs ys : List Item) → length (xs ++ ys) ≡ length xs + length ys
length-two [] ys = omega arith
length-two (x ∷ xs) ys = let i = length-two xs ys in omega (arith, i)

pub length-with : (x : Item) (held : List Item) → length (with_item x held) ≡ length held + 1
length-with x held =
    let before : Item → Bool = (λ y. is_lt (item_cmp y x)) in
    let both = length-two (filter before held) (x ∷ without before held) in
    let split = split_length before held in
    omega (arith, both, split)

pub length-without : (test : Item → Bool) (held : List Item) → length (without test held) ≤ length held
length-without test held = let split = split_length test held in omega (arith, split)

-- the first of them may wait now
pub may_now : (conn n : ℕ) (numbers : List ℕ) (q : Queue) → MayWait conn (n ∷ numbers) q → (IsHeld conn n q.held → ⊥) × (length q.held < q.room)
may_now conn n numbers q may = (may.absent n (Contains-head n numbers), (let room = may.room in omega (arith, room)))

-- and then the others
pub may_next : (conn n due : ℕ) (numbers : List ℕ) (q : Queue) → MayWait conn (n ∷ numbers) q → MayWait conn numbers (record q { held = with_item (record { due = due; conn = conn; seq = n }) q.held })
may_next conn n due numbers q may = record {
  absent = λ m at held. elim ((put_holds q.held (record { due = due; conn = conn; seq = n }) (record { due = held.0; conn = conn; seq = m })).0 held.1) [
    | inl same ↦ let e : m ≡ n = ap (λ (x : Item). x.seq) same in let b = increasing_bound (n + 1) numbers m may.increase.1 at in omega (arith, e, b)
    | inr before ↦ may.absent m (Contains-tail n numbers m at) (held.0, before)
  ];
  least = n + 1;
  increase = may.increase.1;
  room = let len = length-with (record { due = due; conn = conn; seq = n }) q.held in omega (arith, len, may.room);
}

-- what is kept of some numbers increases as they do, and is no more
pub kept_increase : (kept : List RowPacket) (a k : ℕ) → IsIncreasingFrom (a + 1) (map (λ (p : RowPacket). p.seq) (rows_kept kept (numbers_behind a k))) × (length (rows_kept kept (numbers_behind a k)) ≤ k)
kept_increase kept a zero = (tt, omega arith)
kept_increase kept a (suc k) = by (kept_at kept (a + 1)) refl (kept_increase kept (a + 1) k)
  where
    rest : List RowPacket
    rest = rows_kept kept (numbers_behind (a + 1) k)

    by : (o : Option RowPacket) → kept_at kept (a + 1) ≡ o → IsIncreasingFrom (a + 1 + 1) (map (λ (p : RowPacket). p.seq) (rows_kept kept (numbers_behind (a + 1) k))) × (length (rows_kept kept (numbers_behind (a + 1) k)) ≤ k)
        → IsIncreasingFrom (a + 1) (map (λ (p : RowPacket). p.seq) (row_of (kept_at kept (a + 1)) ++ rows_kept kept (numbers_behind (a + 1) k))) × (length (row_of (kept_at kept (a + 1)) ++ rows_kept kept (numbers_behind (a + 1) k)) ≤ suc k)
    by None e h =
        subst (λ o. IsIncreasingFrom (a + 1) (map (λ (p : RowPacket). p.seq) (row_of o ++ rows_kept kept (numbers_behind (a + 1) k))) × (length (row_of o ++ rows_kept kept (numbers_behind (a + 1) k)) ≤ suc k)) (sym e)
        (increasing_less (a + 1) (a + 1 + 1) (map (λ (p : RowPacket). p.seq) (rows_kept kept (numbers_behind (a + 1) k))) (omega arith) h.0, omega (arith, h.1))
    by (Some p) e h =
        let seq = (find_same (λ (x : RowPacket). x.seq) kept (a + 1) p e).1 in
        subst (λ o. IsIncreasingFrom (a + 1) (map (λ (x : RowPacket). x.seq) (row_of o ++ rows_kept kept (numbers_behind (a + 1) k))) × (length (row_of o ++ rows_kept kept (numbers_behind (a + 1) k)) ≤ suc k)) (sym e)
        ((omega (arith, seq), subst (λ n. IsIncreasingFrom (n + 1) (map (λ (x : RowPacket). x.seq) (rows_kept kept (numbers_behind (a + 1) k)))) (sym seq) h.0), omega (arith, h.1))

length-map : {A B : Type 0} (f : A → B) (xs : List A) → length (map f xs) ≡ length xs
length-map f [] = refl
length-map f (x ∷ xs) = ap suc (length-map f xs)

-- the next packets may wait where none waits behind the last one emitted
pub going_may : (end : ConnEnd) (now conn : ℕ) (kept : List RowPacket) (sent count : ℕ) (q : Queue) (flights : List Flight) → flights ≡ map (flight_of end now) (rows_kept kept (numbers_behind sent count))
    → ((n : ℕ) → IsHeld conn n q.held → n ≤ sent) → length q.held + count ≤ q.room → MayWait conn (map (λ (f : Flight). f.seq) flights) q
going_may end now conn kept sent count q flights are alone room =
    let rows = rows_kept kept (numbers_behind sent count) in
    let k = kept_increase kept sent count in
    let seqs : map (λ (f : Flight). f.seq) flights ≡ map (λ (p : RowPacket). p.seq) rows = ap (map (λ (f : Flight). f.seq)) are ∙ map_map (λ (f : Flight). f.seq) (flight_of end now) rows in
    let len : length (map (λ (f : Flight). f.seq) flights) ≡ length rows = ap length seqs ∙ length-map (λ (p : RowPacket). p.seq) rows in
    let rise = subst (IsIncreasingFrom (sent + 1)) (sym seqs) k.0 in
    record {
      absent = λ n at held. let le = alone n held in let b = increasing_bound (sent + 1) (map (λ (f : Flight). f.seq) flights) n rise at in omega (arith, le, b);
      least = sent + 1;
      increase = rise;
      room = omega (arith, len, k.1, room);
    }

-- and no less so once some wait no more
pub alone_without : (conn sent : ℕ) (test : Item → Bool) (held : List Item) → ((n : ℕ) → IsHeld conn n held → n ≤ sent) → (n : ℕ) → IsHeld conn n (without test held) → n ≤ sent
alone_without conn sent test held alone n h = alone n (h.0, ((rest_holds held test (record { due = h.0; conn = conn; seq = n })).0 h.1).0)

-- the same, whatever stands for no element
pub next_at : {A : Type 0} (xs : List A) (i : ℕ) (d : A) → i < length xs → drop i xs ≡ slice_index_or xs i d ∷ drop (i + 1) xs
next_at [] i d lt = absurd (omega (arith, lt))
next_at (y ∷ ys) zero d lt = refl
next_at (y ∷ ys) (suc i) d lt = next_at ys i d (omega (arith, lt)) ∙ ap (λ k. slice_index_or ys i d ∷ drop k (y ∷ ys)) (let e : suc (i + 1) ≡ suc i + 1 = omega arith in e)

-- what all have, the one that is found has
pub found_has : {A : Type 0} (P : A → Type 0) (p : A → Bool) (xs : List A) (x : A) → AllByRecursion P xs → find p xs ≡ Some x → P x
found_has P p [] x all h = let bad : None ≡ Some x = h in cc
found_has P p (y ∷ ys) x all h = by (p y) h (found_has P p ys x all.1)
  where
    by : (b : Bool) → cond b (Some y) (find p ys) ≡ Some x → (find p ys ≡ Some x → P x) → P x
    by true h rest = let same : y ≡ x = cc in subst P same all.0
    by false h rest = rest h
