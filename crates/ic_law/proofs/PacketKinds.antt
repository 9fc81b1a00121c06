-- The kind of the packet in a datagram, by the header with which its bytes begin.
use Rattle.std.proofs.Common.{◌≡◌, ℕ, zero, suc, ◌+◌, ◌*◌, ◌<◌, ◌^◌, List, [], ◌∷◌, ◌++◌, length, get_or, take, drop, Bool, true, false, cond, ◌||◌, ◌==◌}
use Rattle.std.proofs.Common.{nat_lt, Option, Some, None, Result, Ok, Err, refl, sym, ap, ◌∙◌, arith, lit<}
use Rattle.std.specs.List.{flat_map, list_any}
use Rattle.std.specs.Int.{w32, to_be_bytes, from_be_bytes}
use Rattle.std.proofs.lemmas.Nat.{from_be_bytes-to_be_bytes_4}
use Rattle.std.proofs.Math.Seq.{drop-append-add}
use Rattle.ic_base.specs.declared.datagram.Datagram.{Datagram}
use Rattle.ic_header.specs.declared.header.Header.{Header}
use Rattle.ic_header.specs.declared.flags.Flags.{Flags}
use Rattle.ic_header.specs.declared.flags.Flags.TheVariants.{Rows, LastRows, Query, Ack, Stop, Nak, Disorder, Duplicate}
use Rattle.ic_header.specs.declared.fault.HeaderFault.{HeaderFault}
use Rattle.ic_header.specs.declared.fault.HeaderFault.TheVariants as fault
use Rattle.ic_header.specs.Spelling.{flags_word, words_of, written}
use Rattle.ic_header.specs.Reading.{word_at, flags_of, header_at, len_fits, read_with, read_header}
use Rattle.ic_header.proofs.FlagWords.{flags_of-flags_word}
use Rattle.ic_header.specs.Packets.{Packet, packet_read, packet_of}
use Rattle.ic_law.specs.Storing.{tells_stored, packet_tells_stored, datagram_tells_stored}

-- a word of 32 bits is at its place, whatever the others are
word_alone : (ws rest : List ℕ) (k : ℕ) → k < length ws → get_or ws k 0 < 2 ^ 32 → word_at (flat_map (to_be_bytes w32) ws ++ rest) k ≡ get_or ws k 0
unfolding word_at
word_alone [] rest k lt fits = absurd (omega (arith, lt))
word_alone (w ∷ ws) rest zero lt fits = from_be_bytes-to_be_bytes_4 w fits
word_alone (w ∷ ws) rest (suc k) lt fits =
    let place : 4 * suc k ≡ 4 + 4 * k = omega arith in
    let past = flat_map (to_be_bytes w32) ws ++ rest in
    ap (λ n. from_be_bytes w32 (take 4 (drop n (to_be_bytes w32 w ++ past)))) place
    ∙ ap (λ l. from_be_bytes w32 (take 4 l)) (drop-append-add (to_be_bytes w32 w) past (4 * k))
    ∙ word_alone ws rest k (omega (arith, lt)) fits

word_fits : (f : Flags) → flags_word f < 2 ^ 32
word_fits Rows = lit< tt
word_fits LastRows = lit< tt
word_fits Query = lit< tt
word_fits Ack = lit< tt
word_fits Stop = lit< tt
word_fits Nak = lit< tt
word_fits Disorder = lit< tt
word_fits Duplicate = lit< tt

-- the kind that was written
written_kind : (h : Header) (body : List ℕ) → flags_of (word_at (written h ++ body) 12) ≡ Some h.flags
unfolding written
written_kind h body = ap flags_of (word_alone (words_of h) body 12 (omega arith) (word_fits h.flags)) ∙ flags_of-flags_word h.flags

header_kind : (bytes : List ℕ) (kind : Flags) → (header_at bytes kind).flags ≡ kind
unfolding header_at
header_kind bytes kind = refl

abbrev done : Header × List ℕ → Result (Header × List ℕ) HeaderFault
done x = Ok x

ok_is : (x y : Header × List ℕ) → done x ≡ done y → x ≡ y
ok_is x y e = cc

-- the kind that is read
read_kind : (bytes : List ℕ) (h : Header) (body : List ℕ) → read_header bytes ≡ Ok (h, body) → flags_of (word_at bytes 12) ≡ Some h.flags
unfolding read_header
read_kind bytes h body e = by (nat_lt (length bytes) 64) (word_at bytes 11 == 0) (flags_of (word_at bytes 12)) e
  where
    fine : (b : Bool) (kind : Flags) → cond {A = Result (Header × List ℕ) HeaderFault} b (Ok (header_at bytes kind, drop 64 bytes)) (Err fault.Len) ≡ Ok (h, body) → Some kind ≡ Some h.flags
    fine true kind is = let same : header_at bytes kind ≡ h = ap (λ (x : Header × List ℕ). x.0) (ok_is (header_at bytes kind, drop 64 bytes) (h, body) is) in ap Some (sym (header_kind bytes kind) ∙ ap (λ (x : Header). x.flags) same)
    fine false kind is = let bad : Err fault.Len ≡ done (h, body) = is in absurd cc

    by : (short sum : Bool) (o : Option Flags) → cond {A = Result (Header × List ℕ) HeaderFault} short (Err fault.Short) (cond sum (read_with bytes o) (Err fault.Crc)) ≡ Ok (h, body) → o ≡ Some h.flags
    by true sum o is = let bad : Err fault.Short ≡ done (h, body) = is in absurd cc
    by false false o is = let bad : Err fault.Crc ≡ done (h, body) = is in absurd cc
    by false true None is = let bad : Err fault.Flags ≡ done (h, body) = is in absurd cc
    by false true (Some kind) is = fine (len_fits bytes kind) kind is

-- a datagram that begins with a header is of the header's kind, if it is read as a packet
pub packet_kind : (d : Datagram) (p : Packet) (h : Header) (body : List ℕ) → packet_of d ≡ Some p → d.bytes ≡ written h ++ body → p.head.flags ≡ h.flags
unfolding packet_of
packet_kind d p h body reads is = by (read_header d.bytes) refl reads
  where
    some_is : (a b : Flags) → Some a ≡ Some b → a ≡ b
    some_is a b e = cc

    by : (r : Result (Header × List ℕ) HeaderFault) → read_header d.bytes ≡ r → packet_read r ≡ Some p → p.head.flags ≡ h.flags
    by (Ok x) read e =
        let same : record { head = x.0; body = x.1 } ≡ p = cc in
        ap (λ (q : Packet). q.head.flags) (sym same) ∙ some_is x.0.flags h.flags (sym (read_kind d.bytes x.0 x.1 read) ∙ ap (λ l. flags_of (word_at l 12)) is ∙ written_kind h body)
    by (Err f) read e = let bad : None ≡ Some p = e in absurd cc

-- a datagram of another kind than Ack and Disorder doesn't tell that a packet was stored
pub not_telling : (d : Datagram) (h : Header) (body : List ℕ) → d.bytes ≡ written h ++ body → tells_stored h.flags ≡ false → list_any datagram_tells_stored (d ∷ []) ≡ false
not_telling d h body is none = by (packet_of d) refl
  where
    or_none : (b : Bool) → b ≡ false → (b || false) ≡ false
    or_none true e = e
    or_none false e = refl

    by : (o : Option Packet) → packet_of d ≡ o → (packet_tells_stored o || false) ≡ false
    by None reads = refl
    by (Some p) reads = or_none (tells_stored p.head.flags) (ap tells_stored (packet_kind d p h body reads is) ∙ none)
