-- Two keys are the same exactly if they are equal lists. The impls of Eq and Hash cite these lemmas, so they are here.
use Rattle.std.proofs.Common.{◌≡◌, ℕ, Bool, true, false, ◌&&◌, List, [], ◌∷◌, length, suc, refl, sym, ap, ◌∙◌, true≢false}
use Rattle.std.proofs.Math.Bool.{and-false}
use Rattle.std.specs.Cmp.{IsEquivalence, Equal-is, both_ways, first_so, second_so}
use Rattle.ic_row.specs.declared.value.Value.{Value}
use Rattle.ic_row.specs.Order.{value_cmp}
use Rattle.ic_row.proofs.TotalLemmas.{value_cmp_equal}
use Rattle.pl_ops.specs.Rows.{Line, same_value}
use Rattle.pl_ops.specs.Groups.{same_line}
use Rattle.ex_key.specs.Hashing.{line_writes}

-- ---- values

pub same_value-refl : (a : Value) → same_value a a ≡ true
same_value-refl a = (Equal-is (value_cmp a a)).1 ((value_cmp_equal a a).1 refl)

pub same_value-is : (a b : Value) → same_value a b ≡ true → a ≡ b
same_value-is a b h = (value_cmp_equal a b).0 ((Equal-is (value_cmp a b)).0 h)

-- ---- lists of values

pub same_line-refl : (a : Line) → same_line a a ≡ true
same_line-refl [] = refl
same_line-refl (x ∷ xs) = λ i. same_value-refl x i && same_line-refl xs i

pub same_line-is : (a b : Line) → same_line a b ≡ true → a ≡ b
same_line-is [] [] h = refl
same_line-is [] (y ∷ ys) h = absurd (true≢false (sym h))
same_line-is (x ∷ xs) [] h = absurd (true≢false (sym h))
same_line-is (x ∷ xs) (y ∷ ys) h = λ i. same_value-is x y (first_so (same_value x y) (same_line xs ys) h) i ∷ same_line-is xs ys (second_so (same_value x y) (same_line xs ys) h) i

-- ---- what Eq and Hash ask

pub same_line-equiv : IsEquivalence same_line
same_line-equiv = record {
  refl = same_line-refl;
  symm = λ x y. both_ways (same_line x y) (same_line y x) (λ h. ap (λ l. same_line y l) (same_line-is x y h) ∙ same_line-refl y) (λ h. ap (λ l. same_line x l) (same_line-is y x h) ∙ same_line-refl x);
  congr = λ x y z h i. same_line (same_line-is x y h i) z;
}

-- equal keys write the same to a hasher
pub same_writes : (x y : Line) → same_line x y ≡ true → line_writes x ≡ line_writes y
same_writes x y h = ap line_writes (same_line-is x y h)

-- lists of different lengths are not the same
pub not_same-length : (a b : Line) → (length a ≡ length b → ⊥) → same_line a b ≡ false
not_same-length [] [] h = absurd (h refl)
not_same-length [] (y ∷ ys) h = refl
not_same-length (x ∷ xs) [] h = refl
not_same-length (x ∷ xs) (y ∷ ys) h = ap (λ b. same_value x y && b) (not_same-length xs ys (λ e. h (ap suc e))) ∙ and-false (same_value x y)
