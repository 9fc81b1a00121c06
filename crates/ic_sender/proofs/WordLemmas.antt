-- Numbers of four bytes each, one after the other.
use Rattle.std.proofs.Common.{◌≡◌, ℕ, zero, suc, ◌+◌, ◌-◌, ◌*◌, ◌<◌, List, [], ◌∷◌, ◌++◌, take, drop, refl, ap, sym, ◌∙◌, arith, append_assoc}
use Rattle.std.specs.Int.{w32, from_be_bytes}
use Rattle.ic_law.specs.Numbers.{words_from}

drop_two : (xs : List ℕ) (a b : ℕ) → drop b (drop a xs) ≡ drop (a + b) xs
drop_two xs zero b = ap (λ n. drop n xs) (let e : b ≡ 0 + b = omega arith in e)
drop_two [] (suc a) b = none b ∙ sym (none (suc a + b))
  where
    none : (n : ℕ) → drop {A = ℕ} n [] ≡ []
    none zero = refl
    none (suc n) = refl
drop_two (x ∷ xs) (suc a) b = drop_two xs a b ∙ ap (λ n. drop n (x ∷ xs)) (let e : suc (a + b) ≡ suc a + b = omega arith in e)

-- the next number stands in front of the others
pub one_word : (bytes words : List ℕ) (count place : ℕ) → place < count
    → words ++ words_from (count - place) (drop (4 * place) bytes) ≡ (words ++ from_be_bytes w32 (take 4 (drop (4 * place) bytes)) ∷ []) ++ words_from (count - (place + 1)) (drop (4 * (place + 1)) bytes)
one_word bytes words count place lt =
    ap (λ n. words ++ words_from n (drop (4 * place) bytes)) (let e : count - place ≡ suc (count - (place + 1)) = omega (arith, lt) in e)
    ∙ ap (λ l. words ++ (from_be_bytes w32 (take 4 (drop (4 * place) bytes)) ∷ words_from (count - (place + 1)) l)) (drop_two bytes (4 * place) 4 ∙ ap (λ n. drop n bytes) (let e : 4 * place + 4 ≡ 4 * (place + 1) = omega arith in e))
    ∙ sym (append_assoc words (from_be_bytes w32 (take 4 (drop (4 * place) bytes)) ∷ []) (words_from (count - (place + 1)) (drop (4 * (place + 1)) bytes)))
