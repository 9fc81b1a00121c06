-- Which rows are a lawful answer of a plan.
use Rattle.std.specs.Prelude.{◌≡◌, ℕ, min, false, List, ◌++◌, length, IsPermutation}
use Rattle.std.specs.List.{AllByRecursion}
use Rattle.ic_row.specs.declared.order.Key.{Key}
use Rattle.ic_row.specs.Order.{IsSortedBy}
use Rattle.pl_tree.specs.declared.schema.Schema.{Schema}
use Rattle.pl_tree.specs.Trees.{Tree, Limit}
use Rattle.pl_tree.specs.Orders.{order_of}
use Rattle.pl_ops.specs.Rows.{Line}
use Rattle.pl_ops.specs.Merging.{sorts_before}
use Rattle.pl_mean.specs.Logical.{logical, meaning}

-- all rows of a bag, in this order; with no keys in any order
pub record AreAll (keys : List Key) (bag rows : List Line) : Type 0 where
  pub permuted : IsPermutation rows bag
  pub sorted : IsSortedBy keys rows

-- of a bag the first n rows in this order: as many as n, or all if it has fewer; with no keys any n of them
pub record AreFirst (keys : List Key) (n : ℕ) (bag rows : List Line) : Type 0 where
  pub left : List Line
  pub permuted : IsPermutation (rows ++ left) bag
  pub count : length rows ≡ min n (length bag)
  pub sorted : IsSortedBy keys rows
  -- no row that was left out sorts before one that was taken
  pub first : AllByRecursion (λ other. AllByRecursion (λ row. sorts_before keys other row ≡ false) rows) left

-- an answer of a plan whose rows, below a limit at the root, are together this bag; in the order that the root delivers
abbrev pub IsAnswer : Tree → List Line → List Line → Type 0
IsAnswer (Limit n c) bag rows = AreFirst (order_of c) n bag rows
IsAnswer tree bag rows = AreAll (order_of tree) bag rows

-- the rows are a lawful answer of the plan over tables of these schemas, whose rows are these lists
abbrev pub IsLawful : List Schema → List (List Line) → Tree → List Line → Type 0
IsLawful schemas wholes tree rows = IsAnswer tree (meaning schemas wholes (logical tree)) rows
