-- The two laws that join spelling and reading: bytes that spell something are read as it, and what is read is spelled
-- by the bytes.
use Rattle.std.proofs.Common.{◌≡◌, ℕ, zero, suc, ◌+◌, ◌-◌, ◌<◌, ◌≤◌, ◌^◌, List, [], ◌∷◌, ◌++◌, length, get_or, drop, ℤ, FitsSigned, Result, Ok, Err, refl, sym, ap, subst, ◌∙◌, ◌↔◌, arith, length-append}
use Rattle.std.specs.List.{flat_map, AllByRecursion}
use Rattle.std.specs.Int.{w32, to_be_bytes, cast_unsigned, cast_signed}
use Rattle.std.proofs.lemmas.Bool.{cond-true}
use Rattle.std.proofs.lemmas.Int.{of_z-to_z, to_z-of_z}
use Rattle.std.proofs.lemmas.List.{length-drop}
use Rattle.std.proofs.Math.Facts.{sfits_to_z}
use Rattle.std.proofs.Math.Seq.{drop-append_seam}
use Rattle.ic_header.specs.declared.header.Header.{Header}
use Rattle.ic_header.specs.declared.flags.Flags.{Flags}
use Rattle.ic_header.specs.declared.fault.HeaderFault.{HeaderFault}
use Rattle.ic_header.specs.Spelling.{AllowsBody, Heads, IsInRange, flags_word, words_of, written}
use Rattle.ic_header.specs.Reading.{content_at, flags_of, header_at, read_header, word_at}
use Rattle.ic_header.proofs.FlagWords.{flags_of-flags_word}
use Rattle.ic_header.proofs.Words.{IsBytes, length-words, word_at-below, word_at-words, words_from, words_from-spelled}
use Rattle.ic_header.proofs.Judging.{IsFine, Misfits, Reads, Shorts, Sums, Unknown, len_fits-from, reads_kind, verdict}

-- ---- bytes that spell something are read as it

pub length-written : (h : Header) → length (written h) ≡ 64
unfolding written
length-written h = length-words (words_of h)

-- each word of a header that was written, whatever follows
word_of : (h : Header) (body : List ℕ) → IsInRange h → (k : ℕ) → k < 16 → word_at (written h ++ body) k ≡ get_or (words_of h) k 0
unfolding written
word_of h body fits k lt = word_at-words (words_of h) body k lt fits.words

content_again : (bytes : List ℕ) (k : ℕ) (z : ℤ) → word_at bytes k ≡ cast_unsigned w32 z → FitsSigned w32 z → content_at bytes k ≡ z
unfolding content_at
content_again bytes k z word fits = ap (cast_signed w32) word ∙ to_z-of_z w32 z fits

-- the same words and content ids are the same header
header_again : (bytes : List ℕ) (h : Header) → ((k : ℕ) → k < 16 → word_at bytes k ≡ get_or (words_of h) k 0)
    → content_at bytes 9 ≡ h.src_content → content_at bytes 10 ≡ h.dst_content → header_at bytes h.flags ≡ h
unfolding header_at
header_again bytes h w a b =
    let w0 = w 0 (omega arith) in let w1 = w 1 (omega arith) in let w2 = w 2 (omega arith) in let w3 = w 3 (omega arith) in
    let w4 = w 4 (omega arith) in let w5 = w 5 (omega arith) in let w6 = w 6 (omega arith) in let w7 = w 7 (omega arith) in
    let w8 = w 8 (omega arith) in let w13 = w 13 (omega arith) in let w14 = w 14 (omega arith) in let w15 = w 15 (omega arith) in
    simp (w0, w1, w2, w3, w4, w5, w6, w7, w8, w13, w14, w15, a, b)

pub reads_again : (h : Header) (body : List ℕ) → h.len ≡ 64 + length body → AllowsBody h.flags (length body) → IsInRange h → read_header (written h ++ body) ≡ Ok (h, body)
reads_again h body len allowed fits =
    let bytes = written h ++ body in
    let w = word_of h body fits in
    let size : length (written h) ≡ 64 = length-written h in
    let long : length bytes ≡ 64 + length body = length-append (written h) body ∙ ap (λ n. n + length body) size in
    let told : word_at bytes 13 ≡ length bytes = w 13 (omega arith) ∙ len ∙ sym long in
    let rest : length bytes - 64 ≡ length body = omega (arith, long) in
    let a = content_again bytes 9 h.src_content (w 9 (omega arith)) fits.src_content in
    let b = content_again bytes 10 h.dst_content (w 10 (omega arith)) fits.dst_content in
    let least : 64 ≤ length bytes = omega (arith, long) in
    reads_kind bytes h.flags least (w 11 (omega arith)) (ap flags_of (w 12 (omega arith)) ∙ flags_of-flags_word h.flags)
    ∙ cond-true _ _ _ (len_fits-from bytes h.flags told (subst (AllowsBody h.flags) (sym rest) allowed))
    ∙ ap (λ (x : Header). Ok (x, drop 64 bytes)) (header_again bytes h w a b)
    ∙ ap (λ (l : List ℕ). Ok (h, l)) (ap (λ n. drop n bytes) (sym size) ∙ drop-append_seam (written h) body)

pub Heads-written : (h : Header) (body : List ℕ) → h.len ≡ 64 + length body → AllowsBody h.flags (length body) → IsInRange h → Heads h body (written h ++ body)
Heads-written h body len allowed fits =
    record { spelled = refl; len = omega (arith, len, length-append (written h) body, length-written h); allowed = allowed; in_range = fits }

pub reads_spelled : (h : Header) (body bytes : List ℕ) → Heads h body bytes → read_header bytes ≡ Ok (h, body)
reads_spelled h body bytes heads =
    let long : length bytes ≡ length (written h ++ body) = ap (λ (l : List ℕ). length l) heads.spelled in
    let len : h.len ≡ 64 + length body = omega (arith, heads.len, long, length-append (written h) body, length-written h) in
    ap read_header heads.spelled ∙ reads_again h body len heads.allowed heads.in_range

-- ---- what is read is spelled by the bytes

-- the content ids, the crc and the flags are the words at their places
sixteen : (bytes : List ℕ) (a b c d : ℕ) → a ≡ word_at bytes 9 → b ≡ word_at bytes 10 → c ≡ word_at bytes 11 → d ≡ word_at bytes 12
    → word_at bytes 0 ∷ word_at bytes 1 ∷ word_at bytes 2 ∷ word_at bytes 3 ∷ word_at bytes 4 ∷ word_at bytes 5 ∷ word_at bytes 6 ∷ word_at bytes 7 ∷ word_at bytes 8
    ∷ a ∷ b ∷ c ∷ d ∷ word_at bytes 13 ∷ word_at bytes 14 ∷ word_at bytes 15 ∷ [] ≡ words_from bytes 0 16
sixteen bytes a b c d ea eb ec ed = rw (ea, eb, ec, ed) refl

words_of-header_at : (bytes : List ℕ) (kind : Flags) → IsBytes bytes → word_at bytes 11 ≡ 0 → word_at bytes 12 ≡ flags_word kind → words_of (header_at bytes kind) ≡ words_from bytes 0 16
unfolding header_at content_at
words_of-header_at bytes kind fits crc flags =
    sixteen bytes (cast_unsigned w32 (cast_signed w32 (word_at bytes 9))) (cast_unsigned w32 (cast_signed w32 (word_at bytes 10))) 0 (flags_word kind)
    (of_z-to_z w32 (word_at bytes 9) (word_at-below bytes 9 fits)) (of_z-to_z w32 (word_at bytes 10) (word_at-below bytes 10 fits)) (sym crc) (sym flags)

below : (bytes : List ℕ) (k n : ℕ) → IsBytes bytes → AllByRecursion (λ w. w < 2 ^ 32) (words_from bytes k n)
below bytes k zero fits = tt
below bytes k (suc n) fits = (word_at-below bytes k fits, below bytes (suc k) n fits)

content_at-fits : (bytes : List ℕ) (k : ℕ) → IsBytes bytes → FitsSigned w32 (content_at bytes k)
unfolding content_at
content_at-fits bytes k fits = sfits_to_z (record { fits = word_at-below bytes k fits })

header_at-in_range : (bytes : List ℕ) (kind : Flags) → IsBytes bytes → words_of (header_at bytes kind) ≡ words_from bytes 0 16 → IsInRange (header_at bytes kind)
unfolding header_at
header_at-in_range bytes kind fits words = record {
  words = subst (AllByRecursion (λ w. w < 2 ^ 32)) (sym words) (below bytes 0 16 fits);
  src_content = content_at-fits bytes 9 fits;
  dst_content = content_at-fits bytes 10 fits;
}

written-header_at : (bytes : List ℕ) (kind : Flags) → IsBytes bytes → 64 ≤ length bytes → words_of (header_at bytes kind) ≡ words_from bytes 0 16 → bytes ≡ written (header_at bytes kind) ++ drop 64 bytes
unfolding written
written-header_at bytes kind fits long words =
    sym (words_from-spelled bytes 0 16 fits long) ∙ ap (λ (ws : List ℕ). flat_map (to_be_bytes w32) ws ++ drop 64 bytes) (sym words)

header_at-told : (bytes : List ℕ) (kind : Flags) → ((header_at bytes kind).len ≡ word_at bytes 13) × ((header_at bytes kind).flags ≡ kind)
unfolding header_at
header_at-told bytes kind = (refl, refl)

spelled_fine : (bytes : List ℕ) (kind : Flags) → IsBytes bytes → IsFine bytes kind → Heads (header_at bytes kind) (drop 64 bytes) bytes
spelled_fine bytes kind fits fine =
    let words = words_of-header_at bytes kind fits fine.crc fine.flags in
    let told = header_at-told bytes kind in
    let rest : length (drop 64 bytes) ≡ length bytes - 64 = length-drop 64 bytes in
    record {
      spelled = written-header_at bytes kind fits fine.long words;
      len = told.0 ∙ fine.len;
      allowed = subst (λ (f : Flags). AllowsBody f (length (drop 64 bytes))) (sym told.1) (subst (AllowsBody kind) (sym rest) fine.allowed);
      in_range = header_at-in_range bytes kind fits words;
    }

abbrev done : Header × List ℕ → Result (Header × List ℕ) HeaderFault
done x = Ok x

ok_is : (x y : Header × List ℕ) → done x ≡ done y → x ≡ y
ok_is x y e = cc

failed : {A : Type 0} (e : HeaderFault) (x : Header × List ℕ) → Err e ≡ done x → A
failed e x is = absurd cc

pub spelled_read : (bytes : List ℕ) (h : Header) (body : List ℕ) → IsBytes bytes → read_header bytes ≡ Ok (h, body) → Heads h body bytes
spelled_read bytes h body fits e =
    elim (verdict bytes) [
      | Shorts _ f ↦ failed _ (h, body) (sym f ∙ e)
      | Sums _ f ↦ failed _ (h, body) (sym f ∙ e)
      | Unknown _ f ↦ failed _ (h, body) (sym f ∙ e)
      | Misfits _ f ↦ failed _ (h, body) (sym f ∙ e)
      | Reads kind fine f ↦ subst (λ (x : Header × List ℕ). Heads x.0 x.1 bytes) (ok_is (header_at bytes kind, drop 64 bytes) (h, body) (sym f ∙ e)) (spelled_fine bytes kind fits fine)
    ]

pub ok_where : (bytes : List ℕ) → IsBytes bytes → (h : Header) (body : List ℕ) → (read_header bytes ≡ Ok (h, body)) ↔ Heads h body bytes
ok_where bytes fits h body = (spelled_read bytes h body fits, reads_spelled h body bytes)
