-- Texts are compared byte by byte.
use Rattle.std.proofs.Common.{◌≡◌, ℕ, Bool, true, false, List, [], ◌∷◌, refl, sym, ap, ◌∙◌, true≢false, arith}
use Rattle.std.specs.Prelude.{◌&&◌, ◌==◌, ◌↔◌, IsTrue}
use Rattle.std.proofs.lemmas.Bool.Decides.{nat_tests}
use Rattle.pl_tree.specs.Columns.{same_text}

both_true : (a b : Bool) → (a && b) ≡ true → (a ≡ true) × (b ≡ true)
both_true true b h = (refl, h)
both_true false b h = absurd cc

eq_is : (a b : ℕ) → (a == b) ≡ true → a ≡ b
eq_is a b h = grind (arith, nat_tests)

eq_self : (a : ℕ) → (a == a) ≡ true
eq_self a = grind (arith, nat_tests)

pub same_is : (a b : List ℕ) → same_text a b ≡ true → a ≡ b
same_is [] [] h = refl
same_is [] (y ∷ ys) h = absurd cc
same_is (x ∷ xs) [] h = absurd cc
same_is (x ∷ xs) (y ∷ ys) h = let t = both_true (x == y) (same_text xs ys) h in let e = eq_is x y t.0 in let f = same_is xs ys t.1 in cc

pub is_same : (a : List ℕ) → same_text a a ≡ true
is_same [] = refl
is_same (x ∷ xs) = ap (λ (b : Bool). b && same_text xs xs) (eq_self x) ∙ is_same xs

pub decides : (a b : List ℕ) (r : Bool) → (IsTrue r ↔ (a ≡ b)) → r ≡ same_text a b
decides a b r h = by (same_text a b) refl r h
  where
    by : (s : Bool) → same_text a b ≡ s → (r : Bool) → (IsTrue r ↔ (a ≡ b)) → r ≡ s
    by true e true h = refl
    by false e false h = refl
    by true e false h = absurd (true≢false (sym (h.1 (same_is a b e))))
    by false e true h = absurd (true≢false (sym (is_same a) ∙ ap (same_text a) (h.0 refl) ∙ e))
