-- The trees of the program's nodes, by what stands in them.
use Rattle.std.proofs.Common.{◌≡◌, ℕ, List, Option, rules, sym, ap, ◌∙◌}
use Rattle.ic_row.specs.declared.order.Key.{Key}
use Rattle.pl_expr.specs.declared.expr.Expr.{Expr}
use Rattle.pl_tree.specs.declared.node.Pair.{Pair}
use Rattle.pl_tree.specs.declared.node.Node.{Node, the_lemmas}
use Rattle.pl_tree.specs.declared.node.Node as node
use Rattle.pl_tree.specs.Trees.{Tree, tree_of, staged}
use Rattle.pl_tree.specs.Trees as tree

filter_tree : (test : Expr) (c : Node) → tree_of (node.Filter test c) ≡ tree.Filter test (tree_of c)
filter_tree test c = search (rules, the_lemmas)

project_tree : (columns : List ℕ) (c : Node) → tree_of (node.Project columns c) ≡ tree.Project columns (tree_of c)
project_tree columns c = search (rules, the_lemmas)

limit_tree : (count : ℕ) (c : Node) → tree_of (node.Limit count c) ≡ tree.Limit count (tree_of c)
limit_tree count c = search (rules, the_lemmas)

sort_tree : (keys : List Key) (c : Node) → tree_of (node.Sort keys c) ≡ tree.Sort keys (tree_of c)
sort_tree keys c = search (rules, the_lemmas)

join_tree : (l r : Node) (pairs : List Pair) → tree_of (node.Join l r pairs) ≡ tree.Join pairs (tree_of l) (tree_of r)
join_tree l r pairs = search (rules, the_lemmas)

gather_tree : (order : Option (List Key)) (c : Node) → tree_of (node.Gather order c) ≡ tree.Gather order (tree_of c)
gather_tree order c = search (rules, the_lemmas)

redistribute_tree : (keys : List ℕ) (c : Node) → tree_of (node.Redistribute keys c) ≡ tree.Redistribute keys (tree_of c)
redistribute_tree keys c = search (rules, the_lemmas)

broadcast_tree : (c : Node) → tree_of (node.Broadcast c) ≡ tree.Broadcast (tree_of c)
broadcast_tree c = search (rules, the_lemmas)

-- ---- of a node that is known by its value, whose child was read

module _ (n c x : Node) (child : x ≡ c) where
  one : {A : Type 0} (make : A → Tree → Tree) (node_of : A → Node → Node) → ((a : A) (d : Node) → tree_of (node_of a d) ≡ make a (tree_of d)) → (a b : A) → n ≡ node_of a c → b ≡ a → tree_of n ≡ make b (tree_of x)
  one make node_of same a b is e = ap tree_of is ∙ same a c ∙ ap (λ y. make y (tree_of c)) (sym e) ∙ ap (λ d. make b (tree_of d)) (sym child)

  pub at_filter : (a b : Expr) → n ≡ node.Filter a c → b ≡ a → tree_of n ≡ tree.Filter b (tree_of x)
  at_filter a b is e = one tree.Filter node.Filter filter_tree a b is e

  pub at_project : (a b : List ℕ) → n ≡ node.Project a c → b ≡ a → tree_of n ≡ tree.Project b (tree_of x)
  at_project a b is e = one tree.Project node.Project project_tree a b is e

  pub at_limit : (a b : ℕ) → n ≡ node.Limit a c → b ≡ a → tree_of n ≡ tree.Limit b (tree_of x)
  at_limit a b is e = one tree.Limit node.Limit limit_tree a b is e

  pub at_sort : (a b : List Key) → n ≡ node.Sort a c → b ≡ a → tree_of n ≡ tree.Sort b (tree_of x)
  at_sort a b is e = one tree.Sort node.Sort sort_tree a b is e

  pub at_gather : (a b : Option (List Key)) → n ≡ node.Gather a c → b ≡ a → tree_of n ≡ tree.Gather b (tree_of x)
  at_gather a b is e = one tree.Gather node.Gather gather_tree a b is e

  pub at_redistribute : (a b : List ℕ) → n ≡ node.Redistribute a c → b ≡ a → tree_of n ≡ tree.Redistribute b (tree_of x)
  at_redistribute a b is e = one tree.Redistribute node.Redistribute redistribute_tree a b is e

  pub at_broadcast : n ≡ node.Broadcast c → tree_of n ≡ tree.Broadcast (tree_of x)
  at_broadcast is = ap tree_of is ∙ broadcast_tree c ∙ ap (λ d. tree.Broadcast (tree_of d)) (sym child)

pub at_join : (n l r x y : Node) (a b : List Pair) → x ≡ l → y ≡ r → n ≡ node.Join l r a → b ≡ a → tree_of n ≡ tree.Join b (tree_of x) (tree_of y)
at_join n l r x y a b left right is e =
    ap tree_of is ∙ join_tree l r a ∙ ap (λ p. tree.Join p (tree_of l) (tree_of r)) (sym e) ∙ ap (λ d. tree.Join b (tree_of d) (tree_of r)) (sym left) ∙ ap (λ d. tree.Join b (tree_of x) (tree_of d)) (sym right)
