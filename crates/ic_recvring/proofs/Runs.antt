-- Run ends and greatest numbers.
use Rattle.std.proofs.Common.{◌≡◌, ℕ, ◌+◌, ◌<◌, ◌≤◌, List, ◌++◌, arith, inl, inr}
use Rattle.std.specs.List.{Contains}
use Rattle.std.proofs.lemmas.Bool.Decides.{leb_tells}
use Rattle.std.proofs.lemmas.List.Elements.{Contains-append_left}
use Rattle.ic_recvring.specs.Numbers.{numbers_from, IsRunEnd, IsGreatest}
use Rattle.ic_recvring.proofs.Among.{numbers_in}

-- ---- of any numbers

no_further : (numbers : List ℕ) (r q : ℕ) → IsRunEnd numbers r → IsRunEnd numbers q → r < q → ⊥
no_further numbers r q one other lt = one.end (other.run (r + 1) (omega arith) (omega (arith, lt)))

-- there is one run end at most
pub run_end_is_one : (numbers : List ℕ) (r q : ℕ) → IsRunEnd numbers r → IsRunEnd numbers q → r ≡ q
run_end_is_one numbers r q one other =
    elim (leb_tells r q) [
      | inl le ↦ elim (leb_tells q r) [
        | inl ge ↦ omega (arith, le.1, ge.1)
        | inr lt ↦ absurd (no_further numbers r q one other lt.1)
      ]
      | inr lt ↦ absurd (no_further numbers q r other one lt.1)
    ]

-- lists with the same numbers have one run end
pub run_end_moves : (xs ys : List ℕ) (r : ℕ) → ((n : ℕ) → 1 ≤ n → Contains xs n → Contains ys n) → ((n : ℕ) → 1 ≤ n → Contains ys n → Contains xs n) → IsRunEnd xs r → IsRunEnd ys r
run_end_moves xs ys r there back one = record {
  run = λ n low high. there n low (one.run n low high);
  end = λ h. one.end (back (r + 1) (omega arith) h);
}

not_greater : (numbers : List ℕ) (g h : ℕ) → IsGreatest numbers g → IsGreatest numbers h → g ≤ h
not_greater numbers g h one other = elim one.here [ inl none ↦ omega (arith, none) | inr there ↦ other.bound g there ]

pub greatest_is_one : (numbers : List ℕ) (g h : ℕ) → IsGreatest numbers g → IsGreatest numbers h → g ≡ h
greatest_is_one numbers g h one other = let up = not_greater numbers g h one other in let down = not_greater numbers h g other one in omega (arith, up, down)

-- ---- of the numbers up to c, and of others that increase from there

pub consumed_in_run : (c r : ℕ) (xs : List ℕ) → IsRunEnd (numbers_from 1 c ++ xs) r → c ≤ r
consumed_in_run c r xs one =
    elim (leb_tells c r) [
      | inl le ↦ le.1
      | inr lt ↦ absurd (one.end (Contains-append_left (numbers_from 1 c) xs (r + 1) (numbers_in 1 c (r + 1) (omega arith) (omega (arith, lt.1)))))
    ]
