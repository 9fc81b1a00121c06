-- Words as bytes and bytes as words.
use Rattle.std.proofs.Common.{◌≡◌, ℕ, zero, suc, ◌+◌, ◌*◌, ◌<◌, ◌≤◌, ◌^◌, List, [], ◌∷◌, ◌++◌, length, get_or, take, drop, refl, sym, ap, ◌∙◌, append_assoc, arith, inl, inr}
use Rattle.std.specs.List.{flat_map, AllByRecursion}
use Rattle.std.specs.Int.{w32, to_be_bytes, from_be_bytes}
use Rattle.std.proofs.lemmas.Bool.{cases_lt}
use Rattle.std.proofs.lemmas.Nat.{be_bytes_4, from_be_bytes-to_be_bytes_4}
use Rattle.std.proofs.lemmas.List.{drop-drop, take-append-drop, length-append, length-take, length-drop, get_or-drop, get_or-take, get_or_past}
use Rattle.std.proofs.lemmas.List.Concat.{flat_map-cons}
use Rattle.std.proofs.Math.Seq.{drop-append-add}
use Rattle.ic_header.specs.Reading.{word_at}

-- each number fits in a byte
abbrev pub IsBytes : List ℕ → Type 0
IsBytes bytes = (i : ℕ) → get_or bytes i 0 < 256

IsBytes-drop : (n : ℕ) (bytes : List ℕ) → IsBytes bytes → IsBytes (drop n bytes)
IsBytes-drop n bytes h i = rw get_or-drop (h (n + i))

IsBytes-take : (n : ℕ) (bytes : List ℕ) → IsBytes bytes → IsBytes (take n bytes)
IsBytes-take n bytes h i =
    elim (cases_lt i n) [
      | inl lt ↦ rw (get_or-take n bytes i 0 lt) (h i)
      | inr le ↦ rw (get_or_past (take n bytes) i 0 (omega (arith, length-take n bytes))) (omega arith)
    ]

-- ---- words that were written

pub length-words : (ws : List ℕ) → length (flat_map (to_be_bytes w32) ws) ≡ 4 * length ws
length-words [] = refl
length-words (w ∷ ws) = omega (arith, length-append (to_be_bytes w32 w) (flat_map (to_be_bytes w32) ws), length-words ws)

-- a word that was written is at its place, whatever follows
pub word_at-words : (ws : List ℕ) (rest : List ℕ) (k : ℕ) → k < length ws → AllByRecursion (λ n. n < 2 ^ 32) ws → word_at (flat_map (to_be_bytes w32) ws ++ rest) k ≡ get_or ws k 0
unfolding word_at
word_at-words [] rest k lt fits = absurd (omega (arith, lt))
word_at-words (w ∷ ws) rest zero lt fits = from_be_bytes-to_be_bytes_4 w fits.0
word_at-words (w ∷ ws) rest (suc k) lt fits =
    let place : 4 * suc k ≡ 4 + 4 * k = omega arith in
    let past = flat_map (to_be_bytes w32) ws ++ rest in
    ap (λ n. from_be_bytes w32 (take 4 (drop n (to_be_bytes w32 w ++ past)))) place
    ∙ ap (λ l. from_be_bytes w32 (take 4 l)) (drop-append-add (to_be_bytes w32 w) past (4 * k))
    ∙ word_at-words ws rest k (omega (arith, lt)) fits.1

-- ---- words that are read

from_below : (bytes : List ℕ) → IsBytes bytes → from_be_bytes w32 bytes < 2 ^ 32
from_below bytes fits = omega (arith, fits 0, fits 1, fits 2, fits 3)

pub word_at-below : (bytes : List ℕ) (k : ℕ) → IsBytes bytes → word_at bytes k < 2 ^ 32
unfolding word_at
word_at-below bytes k fits = from_below (take 4 (drop (4 * k) bytes)) (IsBytes-take 4 (drop (4 * k) bytes) (IsBytes-drop (4 * k) bytes fits))

-- this many words, from a place on
abbrev pub words_from : List ℕ → ℕ → ℕ → List ℕ
words_from bytes k zero = []
words_from bytes k (suc n) = word_at bytes k ∷ words_from bytes (suc k) n

-- the four bytes of the word at a place
word_at-spelled : (bytes : List ℕ) (k : ℕ) → IsBytes bytes → 4 * k + 4 ≤ length bytes → to_be_bytes w32 (word_at bytes k) ≡ take 4 (drop (4 * k) bytes)
unfolding word_at
word_at-spelled bytes k fits long =
    let past = drop (4 * k) bytes in
    let len : length (take 4 past) ≡ 4 = omega (arith, long, length-take 4 past, length-drop (4 * k) bytes) in
    be_bytes_4 (take 4 past) _ len (IsBytes-take 4 past (IsBytes-drop (4 * k) bytes fits)) refl

-- words that were read spell the bytes in which they were
pub words_from-spelled : (bytes : List ℕ) (k n : ℕ) → IsBytes bytes → 4 * (k + n) ≤ length bytes
    → flat_map (to_be_bytes w32) (words_from bytes k n) ++ drop (4 * (k + n)) bytes ≡ drop (4 * k) bytes
words_from-spelled bytes k zero fits long = let e : 4 * (k + 0) ≡ 4 * k = omega arith in ap (λ m. drop m bytes) e
words_from-spelled bytes k (suc n) fits long =
    let place : 4 * (k + suc n) ≡ 4 * (suc k + n) = omega arith in
    let next : 4 * k + 4 ≡ 4 * suc k = omega arith in
    let first = to_be_bytes w32 (word_at bytes k) in
    let others = flat_map (to_be_bytes w32) (words_from bytes (suc k) n) in
    let rest = drop (4 * (k + suc n)) bytes in
    let past = drop (4 * k) bytes in
    let back : others ++ rest ≡ drop 4 past =
    ap (λ m. others ++ drop m bytes) place ∙ words_from-spelled bytes (suc k) n fits (omega (arith, long))
    ∙ ap (λ m. drop m bytes) (sym next) ∙ sym (drop-drop 4 (4 * k) bytes) in
    ap (λ l. l ++ rest) (flat_map-cons (to_be_bytes w32) (word_at bytes k) (words_from bytes (suc k) n))
    ∙ append_assoc first others rest ∙ ap (λ l. first ++ l) back
    ∙ ap (λ l. l ++ drop 4 past) (word_at-spelled bytes k fits (omega (arith, long))) ∙ take-append-drop 4 past
