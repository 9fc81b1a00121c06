-- The packets that a ring keeps, found by their numbers.
use Rattle.std.proofs.Common.{◌≡◌, ℕ, ◌+◌, ◌≤◌, List, [], ◌∷◌, ◌++◌, length, map, Bool, true, false, cond, ◌==◌, Option, Some, None, refl, ap, sym, ◌∙◌, arith}
use Rattle.std.specs.Prelude.{find, IfSome}
use Rattle.std.specs.Option.{option_map}
use Rattle.std.proofs.lemmas.List.Elements.{All-contains}
use Rattle.ic_base.specs.declared.keys.ConnEnd.{ConnEnd}
use Rattle.ic_sendring.specs.Ring.{Ring, IsRing, Kept, Packet, bare, room_of}
use Rattle.ic_sendring.specs.Views.{lent}
use Rattle.ic_sendring.specs.declared.sealed.Sealed.{Sealed}
use Rattle.ic_header.specs.Packets.{RowPacket}
use Rattle.ic_law.specs.Timing.{numbers_behind}
use Rattle.ic_law.proofs.Lists.{map-append, flat_map-push}
use Rattle.ic_sender.specs.Sending.{row_of, kept_at, rows_kept, flight_of}
use Rattle.ic_sender.specs.Views.{row_in, rows_in, newest_of, one_of, with_newest}
use Rattle.ic_sender.proofs.Lists.{behind-push, find_same, find_append, find_behind}

-- what a ring keeps under a number
abbrev pub ring_at : ℕ → List Kept → Option Kept
ring_at n kept = find (λ (k : Kept). k.packet.seq == n) kept

-- a packet of the ring under a number is the packet of rows under it
pub found_in : (kept : List Kept) (n : ℕ) → kept_at (map (λ (k : Kept). row_in k.packet) kept) n ≡ option_map row_in (bare (ring_at n kept))
found_in [] n = refl
found_in (k ∷ kept) n = by (k.packet.seq == n) (found_in kept n)
  where
    by : (b : Bool) → kept_at (map (λ (k : Kept). row_in k.packet) kept) n ≡ option_map row_in (bare (ring_at n kept))
        → cond b (Some (row_in k.packet)) (kept_at (map (λ (k : Kept). row_in k.packet) kept) n) ≡ option_map row_in (bare (cond b (Some k) (ring_at n kept)))
    by true h = refl
    by false h = h

lent_row : (o : Option Sealed) → option_map row_in (lent o) ≡ option_map newest_of o
lent_row None = refl
lent_row (Some s) = refl

-- what the ring lends under a number
pub lent_is : (ring : Ring) (n : ℕ) (o : Option Sealed) → lent o ≡ bare (ring_at n ring.kept) → option_map newest_of o ≡ kept_at (rows_in ring) n
lent_is ring n o h = sym (lent_row o) ∙ ap (option_map row_in) h ∙ sym (found_in ring.kept n)

-- it is as long as a packet at most
pub lent_fits : (ring : Ring) (n : ℕ) (o : Option Sealed) → IsRing ring → lent o ≡ bare (ring_at n ring.kept) → IfSome o (λ s. length s.payload.now ≤ room_of ring.packet)
lent_fits ring n None is h = tt
lent_fits ring n (Some s) is h = by (ring_at n ring.kept) refl h
  where
    by : (o : Option Kept) → ring_at n ring.kept ≡ o → lent (Some s) ≡ bare o → length s.payload.now ≤ room_of ring.packet
    by None e h = let bad : Some (record { seq = s.seq; last = s.last; payload = s.payload.now }) ≡ None = h in cc
    by (Some k) e h =
        let both : Some (record { seq = s.seq; last = s.last; payload = s.payload.now }) ≡ Some k.packet = h in
        let same : record { seq = s.seq; last = s.last; payload = s.payload.now } ≡ k.packet = cc in
        let there = find_same (λ (x : Kept). x.packet.seq) ring.kept n k e in
        let size = All-contains (λ (x : Kept). length x.packet.payload ≤ room_of ring.packet) ring.kept k is.fits there.0 in
        let len : length s.payload.now ≡ length k.packet.payload = ap (λ (p : Packet). length p.payload) same in
        omega (arith, size, len)

-- with the newest, what is there first is found first
pub with_first : (ring : Ring) (newest : Option Sealed) (n : ℕ) (r : RowPacket) → kept_at (rows_in ring) n ≡ Some r → kept_at (with_newest ring newest) n ≡ Some r
with_first ring newest n r h = find_append (λ (p : RowPacket). p.seq == n) (rows_in ring) (one_of newest) r h

pub with_last : (ring : Ring) (newest : Option Sealed) (n : ℕ) → kept_at (rows_in ring) n ≡ None → kept_at (with_newest ring newest) n ≡ kept_at (one_of newest) n
with_last ring newest n h = find_behind (λ (p : RowPacket). p.seq == n) (rows_in ring) (one_of newest) h

-- one packet more goes out
pub one_going : (end : ConnEnd) (now : ℕ) (kept : List RowPacket) (sent k : ℕ)
    → map (flight_of end now) (rows_kept kept (numbers_behind sent (k + 1))) ≡ map (flight_of end now) (rows_kept kept (numbers_behind sent k)) ++ map (flight_of end now) (row_of (kept_at kept (sent + 1 + k)))
one_going end now kept sent k =
    ap (λ l. map (flight_of end now) (rows_kept kept l)) (behind-push sent k)
    ∙ ap (map (flight_of end now)) (flat_map-push (λ n. row_of (kept_at kept n)) (numbers_behind sent k) (sent + k + 1))
    ∙ map-append (flight_of end now) (rows_kept kept (numbers_behind sent k)) (row_of (kept_at kept (sent + k + 1)))
    ∙ ap (λ n. map (flight_of end now) (rows_kept kept (numbers_behind sent k)) ++ map (flight_of end now) (row_of (kept_at kept n))) (let e : sent + k + 1 ≡ sent + 1 + k = omega arith in e)
