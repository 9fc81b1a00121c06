-- Exact counts and sums that are too great for their values.
use Rattle.std.specs.Prelude.{ℕ, ◌≤◌, ⊤, List, length, take, FitsSigned}
use Rattle.std.specs.Int.{w64, w128}
use Rattle.std.specs.List.{AllByRecursion}
use Rattle.ic_row.specs.declared.value.Value.{Value}
use Rattle.ic_row.specs.declared.value.Value.TheVariants.{Int, Wide}
use Rattle.pl_ops.specs.Rows.{Line}

-- a count has 64 bits with its sign, and a sum has 128
abbrev pub HasRoom : Value → Type 0
HasRoom (Int n) = FitsSigned w64 n
HasRoom (Wide n) = FitsSigned w128 n
HasRoom _ = ⊤

abbrev pub AllHaveRoom : List Line → Type 0
AllHaveRoom rows = AllByRecursion (AllByRecursion HasRoom) rows

-- of an aggregate: after no front of its input is a result of some group too great
abbrev pub StaysWithin : (List Line → List Line) → List Line → Type 0
StaysWithin aggregate rows = (n : ℕ) → n ≤ length rows → AllHaveRoom (aggregate (take n rows))

-- after some front of its input a result of some group is too great
abbrev pub Overflows : (List Line → List Line) → List Line → Type 0
Overflows aggregate rows = (n : ℕ) × (n ≤ length rows) × (AllHaveRoom (aggregate (take n rows)) → ⊥)
