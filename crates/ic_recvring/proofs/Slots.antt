-- Packets in their slots, and what a write to one slot does.
use Rattle.std.proofs.Common.{◌≡◌, ◌≢◌, ℕ, zero, suc, ◌+◌, ◌*◌, ◌/◌, ◌%◌, ◌<◌, ◌≤◌, Bool, true, false, cond, List, [], ◌∷◌, length, set, Option, Some, None, is_some, slice_get, refl, ap, sym, ◌∙◌, subst, arith, inl, inr}
use Rattle.std.specs.List.{AllByRecursion, All}
use Rattle.std.proofs.lemmas.Bool.Decides.{leb_tells}
use Rattle.std.proofs.lemmas.Nat.{div-add-mod', row_fits, mul-le, mod_below}
use Rattle.std.proofs.lemmas.Option.{slice_get_within, get_or_from_slice_get}
use Rattle.std.proofs.lemmas.List.Elements.{All-from_recursion, recursion_from_All}
use Rattle.std.proofs.Math.Nat.{add-mod_right}
use Rattle.ic_recvring.specs.declared.slot.Slot.{Slot}
use Rattle.ic_recvring.specs.Ring.{Packet}
use Rattle.ic_recvring.specs.Views.{packet_in, looked, packet_at}
use Rattle.ic_recvring.proofs.Stretch.{AreNamed}

-- ---- one slot each

-- two numbers that lie closer than the depth have slots of their own
tells_apart : (a b r d m n : ℕ) → a + r ≡ m → b + r ≡ n → m < n → n < m + d → (a + d ≤ b) → ⊥
tells_apart a b r d m n is also lt near far = omega (arith, is, also, near, far)

tells_order : (a b r m n : ℕ) → a + r ≡ m → b + r ≡ n → m < n → b ≤ a → ⊥
tells_order a b r m n is also lt le = omega (arith, is, also, lt, le)

close : (m n d : ℕ) → m < n → n < m + d → m % d ≡ n % d → ⊥
close m n d lt near same =
    let first = div-add-mod' m d in
    let other : n / d * d + m % d ≡ n = ap (λ r. n / d * d + r) same ∙ div-add-mod' n d in
    elim (leb_tells (suc (m / d)) (n / d)) [
      | inl w ↦ tells_apart (m / d * d) (n / d * d) (m % d) d m n first other lt near (row_fits (m / d) d (n / d) d w.1 (omega arith))
      | inr w ↦ tells_order (m / d * d) (n / d * d) (m % d) m n first other lt (mul-le (n / d) d (m / d) d (omega (arith, w.1)) (omega arith))
    ]

pub apart : (c d m n : ℕ) → c < m → m ≤ c + d → c < n → n ≤ c + d → m ≢ n → m % d ≢ n % d
apart c d m n low high low' high' other same =
    elim (leb_tells (suc m) n) [
      | inl w ↦ close m n d w.1 (omega (arith, low, high')) same
      | inr w ↦ elim (leb_tells (suc n) m) [
        | inl v ↦ close n m d v.1 (omega (arith, low', high)) (sym same)
        | inr v ↦ other (omega (arith, w.1, v.1))
      ]
    ]

pub wraps : (n d : ℕ) → (n + d) % d ≡ n % d
wraps n d = add-mod_right n d

-- ---- a write

pub set_here : (slots : List Slot) (i : ℕ) (s : Slot) → i < length slots → slice_get (set slots i s) i ≡ Some s
set_here [] i s lt = absurd (omega (arith, lt))
set_here (x ∷ slots) zero s lt = refl
set_here (x ∷ slots) (suc i) s lt = set_here slots i s (omega (arith, lt))

pub set_else : (slots : List Slot) (i j : ℕ) (s : Slot) → j ≢ i → slice_get (set slots i s) j ≡ slice_get slots j
set_else [] i j s apart = refl
set_else (x ∷ slots) zero zero s apart = absurd (apart refl)
set_else (x ∷ slots) zero (suc j) s apart = refl
set_else (x ∷ slots) (suc i) zero s apart = refl
set_else (x ∷ slots) (suc i) (suc j) s apart = set_else slots i j s (λ e. apart (ap suc e))

all_set : (P : Slot → Type 0) (slots : List Slot) (i : ℕ) (s : Slot) → AllByRecursion P slots → P s → AllByRecursion P (set slots i s)
all_set P [] i s all one = tt
all_set P (x ∷ slots) zero s all one = (one, all.1)
all_set P (x ∷ slots) (suc i) s all one = (all.0, all_set P slots i s all.1 one)

pub All-set : (P : Slot → Type 0) (slots : List Slot) (i : ℕ) (s : Slot) → All P slots → P s → All P (set slots i s)
All-set P slots i s all one = All-from_recursion P (set slots i s) (all_set P slots i s (recursion_from_All P slots all) one)

pub each_slot : (P : Slot → Type 0) (slots : List Slot) (i : ℕ) (s : Slot) → All P slots → slice_get slots i ≡ Some s → P s
each_slot P slots i s all is = subst P (get_or_from_slice_get slots i s s is) (all i s (slice_get_within slots i s is))

-- ---- packets

named_by : (k : ℕ) (s : Slot) (p : Packet) → (b : Bool) → cond b (Some (record { seq = k; last = s.last; payload = s.payload.items })) None ≡ Some p → p ≡ record { seq = k; last = s.last; payload = s.payload.items }
named_by k s p true e = let here : record { seq = k; last = s.last; payload = s.payload.items } ≡ p = cc in sym here
named_by k s p false e = absurd (cc)

-- where a packet is found
pub slot_of : (slots : List Slot) (depth k : ℕ) (p : Packet) → packet_at slots depth k ≡ Some p → (s : Slot) × (slice_get slots (k % depth) ≡ Some s) × (p ≡ record { seq = k; last = s.last; payload = s.payload.items })
slot_of slots depth k p is = by (slice_get slots (k % depth)) refl is
  where
    by : (o : Option Slot) → slice_get slots (k % depth) ≡ o → looked k o ≡ Some p → (s : Slot) × (slice_get slots (k % depth) ≡ Some s) × (p ≡ record { seq = k; last = s.last; payload = s.payload.items })
    by None e h = absurd (let bad : None ≡ Some p = h in cc)
    by (Some s) e h = (s, e, named_by k s p s.kept h)

pub named : (slots : List Slot) (depth : ℕ) → AreNamed (packet_at slots depth)
named slots depth k p is = let found = slot_of slots depth k p is in ap (λ (x : Packet). x.seq) found.2

pub some_packet : (o : Option Packet) → is_some o ≡ true → (p : Packet) × (o ≡ Some p)
some_packet None is = absurd (let bad : false ≡ true = is in cc)
some_packet (Some p) is = (p, refl)

pub no_packet : (o : Option Packet) → is_some o ≡ false → o ≡ None
no_packet None is = refl
no_packet (Some p) is = absurd (let bad : true ≡ false = is in cc)

-- what is read from a slot
pub read_slot : (slots : List Slot) (depth k : ℕ) (s : Slot) → slice_get slots (k % depth) ≡ Some s → packet_at slots depth k ≡ packet_in k s
read_slot slots depth k s is = ap (looked k) is

pub read_kept : (k : ℕ) (s : Slot) → s.kept ≡ true → packet_in k s ≡ Some (record { seq = k; last = s.last; payload = s.payload.items })
read_kept k s is = ap (λ b. cond b (Some (record { seq = k; last = s.last; payload = s.payload.items })) None) is

pub read_free : (k : ℕ) (s : Slot) → s.kept ≡ false → packet_in k s ≡ None
read_free k s is = ap (λ b. cond b (Some (record { seq = k; last = s.last; payload = s.payload.items })) None) is

pub kept_is : (k : ℕ) (s : Slot) → s.kept ≡ is_some (packet_in k s)
kept_is k s = by s.kept
  where
    p : Packet
    p = record { seq = k; last = s.last; payload = s.payload.items }

    by : (b : Bool) → b ≡ is_some {T = Packet} (cond b (Some p) None)
    by true = refl
    by false = refl

pub place_within : (slots : List Slot) (depth n : ℕ) → length slots ≡ depth → 0 < depth → n % depth < length slots
place_within slots depth n count pos = let lt = mod_below n depth pos in omega (arith, lt, count)

pub written_here : (slots : List Slot) (depth m : ℕ) (s : Slot) → length slots ≡ depth → 0 < depth → packet_at (set slots (m % depth) s) depth m ≡ packet_in m s
written_here slots depth m s count pos = ap (looked m) (set_here slots (m % depth) s (place_within slots depth m count pos))

pub written_else : (slots : List Slot) (depth m k : ℕ) (s : Slot) → k % depth ≢ m % depth → packet_at (set slots (m % depth) s) depth k ≡ packet_at slots depth k
written_else slots depth m k s other = ap (looked k) (set_else slots (m % depth) (k % depth) s other)

pub all_free : (slots : List Slot) (depth k : ℕ) → All (λ (s : Slot). s.kept ≡ false) slots → packet_at slots depth k ≡ None
all_free slots depth k free = by (slice_get slots (k % depth)) refl
  where
    by : (o : Option Slot) → slice_get slots (k % depth) ≡ o → looked k o ≡ None
    by None e = refl
    by (Some s) e = read_free k s (each_slot (λ (s : Slot). s.kept ≡ false) slots (k % depth) s free e)
