-- Lists in order, and the top of a bag, by a test of pairs.
use Rattle.std.specs.Prelude.{◌≡◌, ℕ, min, Bool, false, List, [], ◌∷◌, ◌++◌, length, IsPermutation, ⊤}
use Rattle.std.specs.List.{AllByRecursion}
use Rattle.pl_ops.specs.Rows.{Line as Row}

-- no row sorts before an earlier one
abbrev pub InOrder : (Row → Row → Bool) → List Row → Type 0
InOrder before [] = ⊤
InOrder before (x ∷ xs) = AllByRecursion (λ y. before y x ≡ false) xs × InOrder before xs

-- of a bag the lesser of n and its size, in order, with no row left out that sorts before one that was taken
pub record IsTop (before : (Row → Row → Bool)) (n : ℕ) (m rows : List Row) : Type 0 where
  pub left : List Row
  pub bag : IsPermutation (rows ++ left) m
  pub size : length rows ≡ min n (length m)
  pub ordered : InOrder before rows
  pub top : AllByRecursion (λ y. AllByRecursion (λ x. before y x ≡ false) rows) left
