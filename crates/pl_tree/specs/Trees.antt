-- A plan as the definitions have it: one constructor for each kind of node, with an aggregate's stages apart.
use Rattle.std.specs.Prelude.{ℕ, suc, ◌+◌, List, [], ◌∷◌, ◌++◌, Option}
use Rattle.ic_row.specs.declared.order.Key.{Key}
use Rattle.pl_expr.specs.declared.expr.Expr.{Expr}
use Rattle.pl_tree.specs.declared.node.Pair.{Pair}
use Rattle.pl_tree.specs.declared.node.Call.{Call}
use Rattle.pl_tree.specs.declared.node.Stage.{Stage}
use Rattle.pl_tree.specs.declared.node.Node.{Node, fold-Node}
use Rattle.pl_tree.specs.declared.node.Node.TheOpen.{Node-F}
use Rattle.pl_tree.specs.declared.node.Plan.{Plan}

-- a table's name is the list of its bytes
pub data Tree : Type 0 where
  Scan : List ℕ → Tree
  Filter : Expr → Tree → Tree
  Project : List ℕ → Tree → Tree
  Limit : ℕ → Tree → Tree
  Sort : List Key → Tree → Tree
  Join : List Pair → Tree → Tree → Tree
  Single : List ℕ → List Call → Tree → Tree
  Partial : List ℕ → List Call → Tree → Tree
  Final : Tree → Tree
  Gather : Option (List Key) → Tree → Tree
  Redistribute : List ℕ → Tree → Tree
  Broadcast : Tree → Tree

-- ---- the program's trees

abbrev pub staged : Stage → Tree → Tree
staged (Stage.Single group calls) child = Single group calls child
staged (Stage.Partial group calls) child = Partial group calls child
staged Stage.Final child = Final child

-- one level, with each child as a tree in its place
abbrev pub tree_step : Node-F Tree → Tree
tree_step (Node-F.Scan table) = Scan table
tree_step (Node-F.Filter test child) = Filter test child
tree_step (Node-F.Project columns child) = Project columns child
tree_step (Node-F.Limit count child) = Limit count child
tree_step (Node-F.Sort keys child) = Sort keys child
tree_step (Node-F.Join left right pairs) = Join pairs left right
tree_step (Node-F.Agg stage child) = staged stage child
tree_step (Node-F.Gather order child) = Gather order child
tree_step (Node-F.Redistribute keys child) = Redistribute keys child
tree_step (Node-F.Broadcast child) = Broadcast child

abbrev pub tree_of : Node → Tree
tree_of = fold-Node Tree tree_step

-- the tree of a plan
abbrev pub tree_in : Plan → Tree
tree_in plan = tree_of plan.root

-- ---- counting

-- how many nodes there are
abbrev pub nodes_in : Tree → ℕ
nodes_in (Scan t) = 1
nodes_in (Filter e c) = suc (nodes_in c)
nodes_in (Project cols c) = suc (nodes_in c)
nodes_in (Limit n c) = suc (nodes_in c)
nodes_in (Sort ks c) = suc (nodes_in c)
nodes_in (Join on l r) = suc (nodes_in l + nodes_in r)
nodes_in (Single g cs c) = suc (nodes_in c)
nodes_in (Partial g cs c) = suc (nodes_in c)
nodes_in (Final c) = suc (nodes_in c)
nodes_in (Gather o c) = suc (nodes_in c)
nodes_in (Redistribute ks c) = suc (nodes_in c)
nodes_in (Broadcast c) = suc (nodes_in c)

-- how many of them are motions
abbrev pub motions_in : Tree → ℕ
motions_in (Scan t) = 0
motions_in (Filter e c) = motions_in c
motions_in (Project cols c) = motions_in c
motions_in (Limit n c) = motions_in c
motions_in (Sort ks c) = motions_in c
motions_in (Join on l r) = motions_in l + motions_in r
motions_in (Single g cs c) = motions_in c
motions_in (Partial g cs c) = motions_in c
motions_in (Final c) = motions_in c
motions_in (Gather o c) = suc (motions_in c)
motions_in (Redistribute ks c) = suc (motions_in c)
motions_in (Broadcast c) = suc (motions_in c)

-- all nodes in preorder, left before right: the node of a number, from 0, stands at that place
abbrev pub preorder : Tree → List Tree
preorder (Scan t) = Scan t ∷ []
preorder (Filter e c) = Filter e c ∷ preorder c
preorder (Project cols c) = Project cols c ∷ preorder c
preorder (Limit n c) = Limit n c ∷ preorder c
preorder (Sort ks c) = Sort ks c ∷ preorder c
preorder (Join on l r) = Join on l r ∷ (preorder l ++ preorder r)
preorder (Single g cs c) = Single g cs c ∷ preorder c
preorder (Partial g cs c) = Partial g cs c ∷ preorder c
preorder (Final c) = Final c ∷ preorder c
preorder (Gather o c) = Gather o c ∷ preorder c
preorder (Redistribute ks c) = Redistribute ks c ∷ preorder c
preorder (Broadcast c) = Broadcast c ∷ preorder c
