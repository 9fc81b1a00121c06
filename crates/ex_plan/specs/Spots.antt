-- Where the motions of a plan stand, and which node is the top of each slice.
use Rattle.std.specs.Prelude.{◌≡◌, ℕ, zero, suc, ◌+◌, ◌<◌, List, [], ◌∷◌, ◌++◌, Option, Some, None, slice_get}
use Rattle.pl_tree.specs.Trees.{Tree, Scan, Filter, Project, Limit, Sort, Join, Single, Partial, Final, Gather, Redistribute, Broadcast, nodes_in, motions_in, preorder}
use Rattle.pl_plan.specs.Motions.{slices_in}
use Rattle.pl_runs.specs.Slices.{top_of}

-- the node of a motion, its number in preorder from 0, and the slice that hears the motion
pub record Spot : Type 0 where
  pub node : Tree
  pub number : ℕ
  pub above : ℕ

-- The motions of a node that stands in a slice, in preorder. The node has the second number in preorder, and its first motion
-- has the third.
abbrev pub spots : ℕ → ℕ → ℕ → Tree → List Spot
spots slice i n (Scan t) = []
spots slice i n (Filter e c) = spots slice (i + 1) n c
spots slice i n (Project cols c) = spots slice (i + 1) n c
spots slice i n (Limit k c) = spots slice (i + 1) n c
spots slice i n (Sort ks c) = spots slice (i + 1) n c
spots slice i n (Join on l r) = spots slice (i + 1) n l ++ spots slice (i + 1 + nodes_in l) (n + motions_in l) r
spots slice i n (Single g cs c) = spots slice (i + 1) n c
spots slice i n (Partial g cs c) = spots slice (i + 1) n c
spots slice i n (Final c) = spots slice (i + 1) n c
spots slice i n (Gather o c) = record { node = Gather o c; number = i; above = slice } ∷ spots n (i + 1) (n + 1) c
spots slice i n (Redistribute ks c) = record { node = Redistribute ks c; number = i; above = slice } ∷ spots n (i + 1) (n + 1) c
spots slice i n (Broadcast c) = record { node = Broadcast c; number = i; above = slice } ∷ spots n (i + 1) (n + 1) c

-- the motion that has this number, from 1
abbrev pub spot_in : Tree → ℕ → Option Spot
spot_in tree zero = None
spot_in tree (suc m) = slice_get (spots 0 0 1 tree) m

abbrev pub number_below : Option Spot → ℕ
number_below None = 0
number_below (Some spot) = suc spot.number

abbrev pub slice_over : Option Spot → ℕ
slice_over None = 0
slice_over (Some spot) = spot.above

-- the number in preorder, from 0, of the top node of a slice: of the root, or of the node below the slice's motion
abbrev pub top_number : Tree → ℕ → ℕ
top_number tree slice = number_below (spot_in tree slice)

-- the slice that hears what a slice sends
abbrev pub slice_above : Tree → ℕ → ℕ
slice_above tree slice = slice_over (spot_in tree slice)

-- the top node of a slice is the node of its number in preorder
abbrev pub TopsAreNumbered : Type 0
TopsAreNumbered = (tree : Tree) (slice : ℕ) → slice < slices_in tree → slice_get (preorder tree) (top_number tree slice) ≡ Some (top_of tree slice)
