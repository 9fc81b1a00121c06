-- Numbers without a gap.
use Rattle.std.proofs.Common.{◌≡◌, ℕ, zero, suc, ◌+◌, ◌-◌, [], ◌∷◌, ◌++◌, drop, refl, ap, ◌∙◌, arith}
use Rattle.ic_sendring.specs.Ring.{numbers_from}

pub numbers_from-add : (n a b : ℕ) → numbers_from n (a + b) ≡ numbers_from n a ++ numbers_from (n + a) b
numbers_from-add n zero b =
    let nothing : zero + b ≡ b = omega arith in
    let here : n ≡ n + zero = omega arith in
    ap (numbers_from n) nothing ∙ ap (λ m. numbers_from m b) here
numbers_from-add n (suc a) b =
    let longer : suc a + b ≡ suc (a + b) = omega arith in
    let moved : (n + 1) + a ≡ n + suc a = omega arith in
    ap (numbers_from n) longer ∙ ap (λ l. n ∷ l) (numbers_from-add (n + 1) a b ∙ ap (λ m. numbers_from (n + 1) a ++ numbers_from m b) moved)

pub numbers_from-more : (n count : ℕ) → numbers_from n (count + 1) ≡ numbers_from n count ++ (n + count) ∷ []
numbers_from-more n count = numbers_from-add n count 1

pub numbers_from-drop : (n count : ℕ) → drop 1 (numbers_from n count) ≡ numbers_from (n + 1) (count - 1)
numbers_from-drop n zero = refl
numbers_from-drop n (suc count) = let less : count ≡ suc count - 1 = omega arith in ap (numbers_from (n + 1)) less
