-- Payload slots in the block: which one a packet is in, and that no two kept packets share one.
use Rattle.std.proofs.Common.{◌≡◌, ◌≢◌, ℕ, suc, ◌+◌, ◌-◌, ◌*◌, ◌/◌, ◌%◌, ◌<◌, ◌≤◌, Bool, List, [], ◌∷◌, ◌++◌, length, take, drop, Some, None, slice_get, refl, ap, sym, ◌∙◌, subst, arith, inl, inr, ◌⊎◌, append-nil, length-append, length-drop, length-take-le}
use Rattle.std.specs.List.{AllByRecursion, All, between}
use Rattle.std.specs.Option.{option_map}
use Rattle.std.proofs.lemmas.Bool.Decides.{leb_tells}
use Rattle.std.proofs.lemmas.Nat.{div-add-mod', row_fits, mul-le}
use Rattle.std.proofs.lemmas.List.{take_all, drop_all}
use Rattle.std.proofs.lemmas.Slice.{between_is, take-put_mid_below, drop-put_mid}
use borrow.Rule.Slice.PartMut.{put_mid}
use Rattle.std.proofs.lemmas.Option.{slice_get_within, get_or_from_slice_get, slice_get-map}
use Rattle.ic_sendring.specs.declared.slot.Slot.{Slot}
use Rattle.ic_sendring.specs.Ring.{Packet, numbers_from}
use Rattle.ic_sendring.specs.Views.{packet_of, packets_of, seqs_of}
use Rattle.ic_sendring.specs.Room.{IsIn}

abbrev pub packet : ℕ → Bool → List ℕ → Packet
packet seq last payload = record { seq = seq; last = last; payload = payload }

-- ---- numbers closer than the depth

tells_apart : (a b r d m n : ℕ) → a + r ≡ m → b + r ≡ n → m < n → n < m + d → (a + d ≤ b) → ⊥
tells_apart a b r d m n is also lt near far = omega (arith, is, also, near, far)

tells_order : (a b r m n : ℕ) → a + r ≡ m → b + r ≡ n → m < n → b ≤ a → ⊥
tells_order a b r m n is also lt le = omega (arith, is, also, lt, le)

pub close : (m n d : ℕ) → m < n → n < m + d → m % d ≡ n % d → ⊥
close m n d lt near same =
    let first = div-add-mod' m d in
    let other : n / d * d + m % d ≡ n = ap (λ r. n / d * d + r) same ∙ div-add-mod' n d in
    elim (leb_tells (suc (m / d)) (n / d)) [
      | inl w ↦ tells_apart (m / d * d) (n / d * d) (m % d) d m n first other lt near (row_fits (m / d) d (n / d) d w.1 (omega arith))
      | inr w ↦ tells_order (m / d * d) (n / d * d) (m % d) m n first other lt (mul-le (n / d) d (m / d) d (omega (arith, w.1)) (omega arith))
    ]

-- two slots don't overlap
pub apart : (p q room : ℕ) → p ≢ q → (p * room + room ≤ q * room) ⊎ (q * room + room ≤ p * room)
apart p q room other =
    elim (leb_tells (suc p) q) [
      | inl w ↦ inl (row_fits p room q room w.1 (omega arith))
      | inr w ↦ elim (leb_tells (suc q) p) [
        | inl v ↦ inr (row_fits q room p room v.1 (omega arith))
        | inr v ↦ absurd (other (omega (arith, w.1, v.1)))
      ]
    ]

-- ---- packets by their slots

pub length-packets : (block : List ℕ) (slots : List Slot) → length (packets_of block slots) ≡ length slots
length-packets block [] = refl
length-packets block (s ∷ slots) = ap suc (length-packets block slots)

pub packets-drop : (block : List ℕ) (slots : List Slot) → packets_of block (drop 1 slots) ≡ drop 1 (packets_of block slots)
packets-drop block [] = refl
packets-drop block (s ∷ slots) = refl

pub seqs-drop : (packets : List Packet) → seqs_of (drop 1 packets) ≡ drop 1 (seqs_of packets)
seqs-drop [] = refl
seqs-drop (p ∷ packets) = refl

pub read_there : (block : List ℕ) (slots : List Slot) (i : ℕ) (s : Slot) → slice_get slots i ≡ Some s → slice_get (packets_of block slots) i ≡ Some (packet_of block s)
read_there block slots i s is = slice_get-map (packet_of block) slots i ∙ ap (option_map (packet_of block)) is

pub read_none : (block : List ℕ) (slots : List Slot) (i : ℕ) → slice_get slots i ≡ None → slice_get (packets_of block slots) i ≡ None
read_none block slots i is = slice_get-map (packet_of block) slots i ∙ ap (option_map (packet_of block)) is

pub each_slot : (P : Slot → Type 0) (slots : List Slot) (i : ℕ) (s : Slot) → All P slots → slice_get slots i ≡ Some s → P s
each_slot P slots i s all is = subst P (get_or_from_slice_get slots i s s is) (all i s (slice_get_within slots i s is))

-- the numbers of the packets are a stretch
pub in_stretch : (block : List ℕ) (from high : ℕ) (slots : List Slot) → seqs_of (packets_of block slots) ≡ numbers_from from (length slots) → from + length slots ≤ high
    → AllByRecursion (λ (s : Slot). (from ≤ s.seq) × (s.seq < high)) slots
in_stretch block from high [] follow le = tt
in_stretch block from high (s ∷ slots) follow le =
    let first : s.seq ≡ from = cc in
    let rest : seqs_of (packets_of block slots) ≡ numbers_from (from + 1) (length slots) = cc in
    let later = in_stretch block (from + 1) high slots rest (omega (arith, le)) in
    ((omega (arith, first), omega (arith, first, le)), lower slots later)
  where
    lower : (more : List Slot) → AllByRecursion (λ (s : Slot). (from + 1 ≤ s.seq) × (s.seq < high)) more → AllByRecursion (λ (s : Slot). (from ≤ s.seq) × (s.seq < high)) more
    lower [] all = tt
    lower (t ∷ more) all = ((omega (arith, all.0), all.0.1), lower more all.1)

-- ---- a write to one slot

pub record Fills (at room : ℕ) (old now : List ℕ) : Type 0 where
  pub before : (a e : ℕ) → e ≤ at → e ≤ length old → between a e now ≡ between a e old
  pub behind : (a e : ℕ) → at + room ≤ a → e ≤ length old → between a e now ≡ between a e old
  pub longer : length old ≤ length now

module _ (depth room sealed : ℕ) (old now : List ℕ) (at : ℕ) (is : at ≡ (sealed % depth) * room) (fills : Fills at room old now) where
  -- what is in another slot stays
  stays : (s : Slot) → IsIn depth room old s → 1 ≤ s.seq → s.seq ≤ sealed → sealed < s.seq - 1 + depth → packet_of now s ≡ packet_of old s
  stays s inside low high near =
      let other : (s.seq - 1) % depth ≢ sealed % depth = close (s.seq - 1) sealed depth (omega (arith, low, high)) near in
      let same : between s.at (s.at + s.len) now ≡ between s.at (s.at + s.len) old =
      elim (apart ((s.seq - 1) % depth) (sealed % depth) room other) [
        | inl w ↦ fills.before s.at (s.at + s.len) (omega (arith, w, is, inside.at, inside.short)) inside.within
        | inr w ↦ fills.behind s.at (s.at + s.len) (omega (arith, w, is, inside.at)) inside.within
      ] in
      ap (λ l. record { seq = s.seq; last = s.last; payload = l }) same

  pub packets_stay : (slots : List Slot) → AllByRecursion (IsIn depth room old) slots → AllByRecursion (λ (s : Slot). (1 ≤ s.seq) × (s.seq ≤ sealed) × (sealed < s.seq - 1 + depth)) slots → packets_of now slots ≡ packets_of old slots
  packets_stay [] inside near = refl
  packets_stay (s ∷ slots) inside near =
      ap (λ p. p ∷ packets_of now slots) (stays s inside.0 near.0.0 near.0.1 near.0.2) ∙ ap (λ l. packet_of old s ∷ l) (packets_stay slots inside.1 near.1)

  pub all_in : (slots : List Slot) → AllByRecursion (IsIn depth room old) slots → AllByRecursion (IsIn depth room now) slots
  all_in [] inside = tt
  all_in (s ∷ slots) inside = (record { at = inside.0.at; short = inside.0.short; within = omega (arith, inside.0.within, fills.longer) }, all_in slots inside.1)

-- ---- a write to a part of a list leaves what is before it, and behind it

before_mid : (at k : ℕ) (xs ys : List ℕ) (a e : ℕ) → e ≤ at → at ≤ length xs → between a e (put_mid at k xs ys) ≡ between a e xs
before_mid at k xs ys a e le within = between_is (put_mid at k xs ys) a e ∙ ap (drop a) (take-put_mid_below at k xs ys e le within) ∙ sym (between_is xs a e)

behind_mid : (at k : ℕ) (xs ys : List ℕ) (a e : ℕ) → at + k ≤ a → at ≤ length xs → length ys ≡ k → between a e (put_mid at k xs ys) ≡ between a e xs
behind_mid at k xs ys a e le within long = ap (take (e - a)) (drop-put_mid at k xs ys a le within long)

length_mid : (at k : ℕ) (xs ys : List ℕ) → at + k ≤ length xs → length ys ≡ k → length (put_mid at k xs ys) ≡ length xs
length_mid at k xs ys within long =
    let front = length-take-le at xs (omega (arith, within)) in
    let all = length-append (take at xs) (ys ++ drop k (drop at xs)) in
    let rest = length-append ys (drop k (drop at xs)) in
    let past = length-drop k (drop at xs) in
    let last = length-drop at xs in
    omega (arith, front, all, rest, past, last, within, long)

-- the list of a vector that was written whole
whole : (n : ℕ) (xs now : List ℕ) → n ≡ length xs → length now ≡ length xs → take n (now ++ drop (length now) xs) ≡ now
whole n xs now is long =
    ap (λ l. take n (now ++ l)) (drop_all (length now) xs (omega (arith, long))) ∙ ap (take n) (append-nil now) ∙ take_all n now (omega (arith, is, long))

pub written_before : (n at k : ℕ) (xs lent ys : List ℕ) → n ≡ length xs → lent ≡ xs → at + k ≤ length xs → length ys ≡ k → (a e : ℕ) → e ≤ at
    → between a e (take n (put_mid at k lent ys ++ drop (length (put_mid at k lent ys)) xs)) ≡ between a e xs
written_before n at k xs lent ys is same within long a e le =
    let count = ap length same in
    ap (between a e) (whole n xs (put_mid at k lent ys) is (length_mid at k lent ys (omega (arith, within, count)) long ∙ count))
    ∙ before_mid at k lent ys a e le (omega (arith, within, count)) ∙ ap (between a e) same

pub written_behind : (n at k : ℕ) (xs lent ys : List ℕ) → n ≡ length xs → lent ≡ xs → at + k ≤ length xs → length ys ≡ k → (a e : ℕ) → at + k ≤ a
    → between a e (take n (put_mid at k lent ys ++ drop (length (put_mid at k lent ys)) xs)) ≡ between a e xs
written_behind n at k xs lent ys is same within long a e le =
    let count = ap length same in
    ap (between a e) (whole n xs (put_mid at k lent ys) is (length_mid at k lent ys (omega (arith, within, count)) long ∙ count))
    ∙ behind_mid at k lent ys a e le (omega (arith, within, count)) long ∙ ap (between a e) same

-- ---- what is lent

pub lent_is : (block shown : List ℕ) (s : Slot) (n : ℕ) (last : Bool) (payload : List ℕ) → n ≡ s.seq → last ≡ s.last → payload ≡ (packet_of shown s).payload → shown ≡ block
    → packet n last payload ≡ packet_of block s
lent_is block shown s n last payload seq end bytes same =
    ap (λ m. packet m last payload) seq ∙ ap (λ b. packet s.seq b payload) end ∙ ap (packet s.seq s.last) (bytes ∙ ap (λ l. (packet_of l s).payload) same)
