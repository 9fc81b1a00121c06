-- Sixteen bytes and the number that they encode, by the two halves of eight.
use Rattle.std.proofs.Common.{◌≡◌, ℕ, ◌+◌, ◌*◌, ◌/◌, ◌%◌, ◌^◌, ◌<◌, List, [], ◌∷◌, ◌++◌, length, get_or, take, drop, refl, sym, inl, inr, ap, ◌∙◌, arith, length-drop}
use Rattle.std.specs.Int.{w64, w128, from_be_bytes, to_be_bytes}
use Rattle.std.proofs.lemmas.List.{take-append-drop, length-take, get_or-drop, get_or-take, get_or_past}
use Rattle.std.proofs.lemmas.Bool.{cases_lt}
use Rattle.std.proofs.lemmas.Nat.{be_bytes_8, from_be_bytes-to_be_bytes_8, div-mul-add, mod-mul-add}
use native.Mathlib.Nat as nat

high_byte : (n p : ℕ) → n / (18446744073709551616 * p) % 256 ≡ n / 18446744073709551616 / p % 256
high_byte n p = ap (λ x. x % 256) (sym (nat.div-div-eq-div-mul n 18446744073709551616 p))

low_0 : (n : ℕ) → n % 256 ≡ n % 18446744073709551616 % 256
low_0 n = omega arith

low_1 : (n : ℕ) → n / 256 % 256 ≡ n % 18446744073709551616 / 256 % 256
low_1 n = omega arith

low_2 : (n : ℕ) → n / 65536 % 256 ≡ n % 18446744073709551616 / 65536 % 256
low_2 n = omega arith

low_3 : (n : ℕ) → n / 16777216 % 256 ≡ n % 18446744073709551616 / 16777216 % 256
low_3 n = omega arith

low_4 : (n : ℕ) → n / 4294967296 % 256 ≡ n % 18446744073709551616 / 4294967296 % 256
low_4 n = omega arith

low_5 : (n : ℕ) → n / 1099511627776 % 256 ≡ n % 18446744073709551616 / 1099511627776 % 256
low_5 n = omega arith

low_6 : (n : ℕ) → n / 281474976710656 % 256 ≡ n % 18446744073709551616 / 281474976710656 % 256
low_6 n = omega arith

low_7 : (n : ℕ) → n / 72057594037927936 % 256 ≡ n % 18446744073709551616 / 72057594037927936 % 256
low_7 n = omega arith

halves : (n : ℕ) → to_be_bytes w128 n ≡ to_be_bytes w64 (n / 18446744073709551616) ++ to_be_bytes w64 (n % 18446744073709551616)
halves n = λ i. high_byte n 72057594037927936 i ∷ high_byte n 281474976710656 i ∷ high_byte n 1099511627776 i ∷ high_byte n 4294967296 i ∷ high_byte n 16777216 i ∷ high_byte n 65536 i ∷ high_byte n 256 i ∷ (n / 18446744073709551616 % 256) ∷ low_7 n i ∷ low_6 n i ∷ low_5 n i ∷ low_4 n i ∷ low_3 n i ∷ low_2 n i ∷ low_1 n i ∷ low_0 n i ∷ []

from_halves : (bs : List ℕ) → from_be_bytes w128 bs ≡ from_be_bytes w64 (take 8 bs) * 18446744073709551616 + from_be_bytes w64 (drop 8 bs)
from_halves bs = omega (arith, get_or-take 8 bs 0 0 (omega arith), get_or-take 8 bs 1 0 (omega arith), get_or-take 8 bs 2 0 (omega arith), get_or-take 8 bs 3 0 (omega arith), get_or-take 8 bs 4 0 (omega arith), get_or-take 8 bs 5 0 (omega arith), get_or-take 8 bs 6 0 (omega arith), get_or-take 8 bs 7 0 (omega arith), get_or-drop 8 bs 0 0, get_or-drop 8 bs 1 0, get_or-drop 8 bs 2 0, get_or-drop 8 bs 3 0, get_or-drop 8 bs 4 0, get_or-drop 8 bs 5 0, get_or-drop 8 bs 6 0, get_or-drop 8 bs 7 0)

pub from_be_bytes-to_be_bytes_16 : (n : ℕ) → n < 2 ^ 128 → from_be_bytes w128 (to_be_bytes w128 n) ≡ n
from_be_bytes-to_be_bytes_16 n lt =
    let high = n / 18446744073709551616 in
    let low = n % 18446744073709551616 in
    ap (from_be_bytes w128) (halves n) ∙ from_halves (to_be_bytes w64 high ++ to_be_bytes w64 low)
    ∙ omega (arith, from_be_bytes-to_be_bytes_8 high (omega arith), from_be_bytes-to_be_bytes_8 low (omega arith))

below_8 : (bs : List ℕ) → ((i : ℕ) → get_or bs i 0 < 256) → from_be_bytes w64 bs < 2 ^ 64
below_8 bs fits = omega (arith, fits 0, fits 1, fits 2, fits 3, fits 4, fits 5, fits 6, fits 7)

fits-take : (n : ℕ) (bs : List ℕ) → ((i : ℕ) → get_or bs i 0 < 256) → (i : ℕ) → get_or (take n bs) i 0 < 256
fits-take n bs h i =
    elim (cases_lt i n) [
      | inl lt ↦ rw (get_or-take n bs i 0 lt) (h i)
      | inr le ↦ rw (get_or_past (take n bs) i 0 (omega (arith, length-take n bs))) (omega arith)
    ]

fits-drop : (n : ℕ) (bs : List ℕ) → ((i : ℕ) → get_or bs i 0 < 256) → (i : ℕ) → get_or (drop n bs) i 0 < 256
fits-drop n bs h i = rw get_or-drop (h (n + i))

pub below_16 : (bs : List ℕ) → ((i : ℕ) → get_or bs i 0 < 256) → from_be_bytes w128 bs < 2 ^ 128
below_16 bs fits = omega (arith, from_halves bs, below_8 (take 8 bs) (fits-take 8 bs fits), below_8 (drop 8 bs) (fits-drop 8 bs fits))

pub be_bytes_16 : (bs : List ℕ) → length bs ≡ 16 → ((i : ℕ) → get_or bs i 0 < 256) → to_be_bytes w128 (from_be_bytes w128 bs) ≡ bs
be_bytes_16 bs len fits =
    let high = from_be_bytes w64 (take 8 bs) in
    let low = from_be_bytes w64 (drop 8 bs) in
    let small : low < 18446744073709551616 = below_8 (drop 8 bs) (fits-drop 8 bs fits) in
    ap (to_be_bytes w128) (from_halves bs) ∙ halves (high * 18446744073709551616 + low)
    ∙ ap (λ n. to_be_bytes w64 n ++ to_be_bytes w64 ((high * 18446744073709551616 + low) % 18446744073709551616)) (div-mul-add high 18446744073709551616 low small)
    ∙ ap (λ n. to_be_bytes w64 high ++ to_be_bytes w64 n) (mod-mul-add high 18446744073709551616 low small)
    ∙ ap (λ l. l ++ to_be_bytes w64 low) (be_bytes_8 (take 8 bs) _ (omega (arith, length-take 8 bs)) (fits-take 8 bs fits) refl)
    ∙ ap (λ l. take 8 bs ++ l) (be_bytes_8 (drop 8 bs) _ (omega (arith, length-drop 8 bs)) (fits-drop 8 bs fits) refl)
    ∙ take-append-drop 8 bs
