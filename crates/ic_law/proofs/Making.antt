-- The datagrams that the ends of a connection make are read as what they were made of.
use Rattle.std.proofs.Common.{lit<, ◌≡◌, ℕ, ◌+◌, ◌<◌, ◌≤◌, ◌^◌, ℤ, pos, negsuc, zero, suc, List, [], ◌∷◌, length, Bool, true, false, cond, ◌&&◌, Some, refl, ap}
use Rattle.std.proofs.Common.{◌∙◌, subst, arith, append-nil}
use Rattle.std.specs.Prelude.{◌≤ℤ◌, leb, T, FitsSigned}
use Rattle.std.specs.Int.{w32, cast_unsigned}
use Rattle.std.proofs.lemmas.Bool.{leb-true}
use Rattle.std.proofs.lemmas.Int.{fits_signed_from_abs}
use Rattle.ic_base.specs.declared.keys.ConnEnd.{ConnEnd}
use Rattle.ic_base.specs.Keys.{key_eq}
use Rattle.ic_base.proofs.SameKeys.{key_eq-same}
use Rattle.ic_header.specs.declared.flags.Flags.{Flags}
use Rattle.ic_header.specs.declared.flags.Flags.TheVariants.{Rows, LastRows, Query, Ack, Stop, Nak, Disorder, Duplicate}
use Rattle.ic_header.specs.Spelling.{written, flags_word, AllowsBody, IsInRange, Heads}
use Rattle.ic_header.proofs.Joining.{Heads-written, reads_again, reads_spelled}
use Rattle.ic_header.specs.Packets.{packet_read, packet_of, is_rows, is_last, IsSegment, header_for, rows_flags, RowPacket, row_datagram, query_datagram}
use Rattle.ic_header.specs.Packets.{answer_datagram}
use Rattle.ic_law.specs.History.{rows_read, rows_in}

-- the names of an end fit the words of headers
pub record FitsWords (end : ConnEnd) : Type 0 where
  pub session : end.key.session < 2 ^ 32
  pub query : end.key.query < 2 ^ 32
  pub motion : end.key.motion < 2 ^ 32
  pub send_slice : end.send_slice < 2 ^ 32
  pub recv_slice : end.recv_slice < 2 ^ 32
  pub from : IsSegment end.key.from
  pub to : IsSegment end.key.to

word_fits : (f : Flags) → flags_word f < 2 ^ 32
word_fits Rows = lit< tt
word_fits LastRows = lit< tt
word_fits Query = lit< tt
word_fits Ack = lit< tt
word_fits Stop = lit< tt
word_fits Nak = lit< tt
word_fits Disorder = lit< tt
word_fits Duplicate = lit< tt

small : (n : ℕ) → pos n ≤ℤ pos 63 → n ≤ 63
small n h = by (leb n 63) refl h.le
  where
    by : (b : Bool) → leb n 63 ≡ b → T b → n ≤ 63
    by true e t = leb-true n 63 e
    by false e t = absurd t

not_below : (n : ℕ) → negsuc 0 ≤ℤ negsuc (suc n) → ⊥
not_below n h = by (leb (suc n) 0) refl h.le
  where
    by : (b : Bool) → leb (suc n) 0 ≡ b → T b → ⊥
    by true e t = omega (arith, leb-true (suc n) 0 e)
    by false e t = t

content : (z : ℤ) → IsSegment z → cast_unsigned w32 z < 2 ^ 32
content (pos n) h = omega (arith, small n h.1)
content (negsuc zero) h = lit< tt
content (negsuc (suc n)) h = absurd (not_below n h.0)

content_fits : (z : ℤ) → IsSegment z → FitsSigned w32 z
content_fits (pos n) h = fits_signed_from_abs w32 (pos n) (omega (arith, small n h.1))
content_fits (negsuc zero) h = fits_signed_from_abs w32 (negsuc zero) (lit< tt)
content_fits (negsuc (suc n)) h = absurd (not_below n h.0)

in_range : (end : ConnEnd) (flags : Flags) (size seq extra : ℕ) → FitsWords end → 64 + size < 2 ^ 32 → seq < 2 ^ 32 → extra < 2 ^ 32 → IsInRange (header_for end flags size seq extra)
in_range end flags size seq extra fits len number more = record {
  words = (fits.motion, (lit< tt, (lit< tt, (lit< tt, (lit< tt, (fits.session, (fits.query, (fits.recv_slice, (fits.send_slice, (content end.key.from fits.from, (content end.key.to fits.to, (lit< tt, (word_fits flags, (len, (number, (more, tt))))))))))))))));
  src_content = content_fits end.key.from fits.from;
  dst_content = content_fits end.key.to fits.to;
}

-- ---- answers

pub answer_heads : (end : ConnEnd) (flags : Flags) (seq extra : ℕ) (body : List ℕ) → FitsWords end → AllowsBody flags (length body) → 64 + length body < 2 ^ 32 → seq < 2 ^ 32 → extra < 2 ^ 32
    → Heads (header_for end flags (length body) seq extra) body (answer_datagram end flags seq extra body).bytes
answer_heads end flags seq extra body fits allows len number more = Heads-written (header_for end flags (length body) seq extra) body refl allows (in_range end flags (length body) seq extra fits len number more)

pub answer_reads : (end : ConnEnd) (flags : Flags) (seq extra : ℕ) (body : List ℕ) → FitsWords end → AllowsBody flags (length body) → 64 + length body < 2 ^ 32 → seq < 2 ^ 32 → extra < 2 ^ 32
    → packet_of (answer_datagram end flags seq extra body) ≡ Some (record { head = header_for end flags (length body) seq extra; body = body })
unfolding packet_of
answer_reads end flags seq extra body fits allows len number more = ap packet_read (reads_again (header_for end flags (length body) seq extra) body refl allows (in_range end flags (length body) seq extra fits len number more))

-- ---- packets of rows

pub row_heads : (end : ConnEnd) (p : RowPacket) → FitsWords end → 4 ≤ length p.payload → 64 + length p.payload < 2 ^ 32 → p.seq < 2 ^ 32
    → Heads (header_for end (rows_flags p.last) (length p.payload) p.seq 0) p.payload (row_datagram end p).bytes
row_heads end p fits body len number =
    Heads-written (header_for end (rows_flags p.last) (length p.payload) p.seq 0) p.payload refl (allowed p.last) (in_range end (rows_flags p.last) (length p.payload) p.seq 0 fits len number (lit< tt))
  where
    allowed : (b : Bool) → AllowsBody (rows_flags b) (length p.payload)
    allowed true = body
    allowed false = body

pub row_reads : (end : ConnEnd) (p : RowPacket) → FitsWords end → 4 ≤ length p.payload → 64 + length p.payload < 2 ^ 32 → p.seq < 2 ^ 32
    → packet_of (row_datagram end p) ≡ Some (record { head = header_for end (rows_flags p.last) (length p.payload) p.seq 0; body = p.payload })
unfolding packet_of
row_reads end p fits body len number =
    let heads = row_heads end p fits body len number in
    ap packet_read (reads_spelled (header_for end (rows_flags p.last) (length p.payload) p.seq 0) p.payload (row_datagram end p).bytes heads)

last_again : (b : Bool) → is_last (rows_flags b) ≡ b
last_again true = refl
last_again false = refl

rows_again : (b : Bool) → is_rows (rows_flags b) ≡ true
rows_again true = refl
rows_again false = refl

-- the datagram of a packet of rows is this packet, of this connection
pub row_in : (end : ConnEnd) (p : RowPacket) → FitsWords end → 4 ≤ length p.payload → 64 + length p.payload < 2 ^ 32 → p.seq < 2 ^ 32 → rows_in end.key (row_datagram end p) ≡ p ∷ []
row_in end p fits body len number =
    ap (rows_read end.key) (row_reads end p fits body len number) ∙ chosen (is_rows (rows_flags p.last)) (key_eq end.key end.key) (rows_again p.last) (key_eq-same end.key)
    ∙ ap (λ b. with_last b ∷ []) (last_again p.last)
  where
    with_last : Bool → RowPacket
    with_last b = record { seq = p.seq; payload = p.payload; last = b }

    again : RowPacket
    again = record { seq = p.seq; payload = p.payload; last = is_last (rows_flags p.last) }

    chosen : (a b : Bool) → a ≡ true → b ≡ true → cond (a && b) (again ∷ []) [] ≡ again ∷ []
    chosen true true ha hb = refl
    chosen true false ha hb = cc
    chosen false b ha hb = cc

-- ---- status queries

pub query_heads : (end : ConnEnd) (seq : ℕ) → FitsWords end → seq < 2 ^ 32 → Heads (header_for end Query 0 seq 0) [] (query_datagram end seq).bytes
query_heads end seq fits number =
    let h = header_for end Query 0 seq 0 in
    subst (Heads h []) (append-nil (written h)) (Heads-written h [] refl refl (in_range end Query 0 seq 0 fits (lit< tt) number (lit< tt)))

pub query_reads : (end : ConnEnd) (seq : ℕ) → FitsWords end → seq < 2 ^ 32 → packet_of (query_datagram end seq) ≡ Some (record { head = header_for end Query 0 seq 0; body = [] })
unfolding packet_of
query_reads end seq fits number = ap packet_read (reads_spelled (header_for end Query 0 seq 0) [] (query_datagram end seq).bytes (query_heads end seq fits number))
