-- The sizes of plans that are read.
use Rattle.std.proofs.Common.{◌≡◌, ℕ, ◌≤◌, List, ◌∷◌, length, codes, nat_le, Ordering, Less, Equal, Greater, Option, Result, Ok, sym, subst, rules}
use Rattle.std.specs.Prelude.{⊤}
use Rattle.std.specs.Cmp.Lexicographic.{slice_cmp}
use Rattle.std.specs.Ordering.{nat_cmp, match_ordering}
use Rattle.std.specs.List.{AllByRecursion}
use Rattle.std.proofs.lemmas.Bool.{leb-true}
use Rattle.serde_json.specs.Data.{Data, null, boolean, number, string, array, object, Members, no_members}
use Rattle.serde_json.specs.Data as json
use Rattle.ic_row.specs.declared.order.Key.{Key}
use Rattle.pl_expr.specs.declared.expr.Expr.{Expr}
use Rattle.pl_expr.specs.Entries.{entries_of}
use Rattle.pl_tree.specs.declared.node.Call.{Call}
use Rattle.pl_tree.specs.declared.node.Pair.{Pair}
use Rattle.pl_tree.specs.declared.node.Stage.{Stage}
use Rattle.pl_tree.specs.declared.node.Stage.TheVariants as stage
use Rattle.pl_tree.specs.declared.node.Node.{Node, the_lemmas}
use Rattle.pl_tree.specs.declared.node.Node as node
use Rattle.pl_tree.specs.declared.node.Plan.{Plan}
use Rattle.pl_tree.specs.Trees.{tree_of, tree_in, staged, nodes_in}
use Rattle.pl_tree.specs.Trees as tree
use Rattle.pl_tree.specs.Sizes.{HasSizes, IsPlan}
use Rattle.pl_read.specs.declared.fault.DocFault.{DocFault}
use Rattle.pl_read.specs.declared.fault.Flaw.TheVariants.{Range}
use Rattle.pl_read.specs.declared.node.Shape.{Shape}
use Rattle.pl_read.specs.declared.node.Shape.TheVariants.{Scan, Join, Over}
use Rattle.pl_read.specs.declared.node.Upper.{Upper}
use Rattle.pl_read.specs.declared.node.Upper.TheVariants.{Filter, Project, Limit, Sort, Single, Partial, Final, Gather, Redistribute, Broadcast}
use Rattle.pl_read.specs.declared.node.Head.{Head}
use Rattle.pl_read.specs.declared.node.Head.TheVariants as head
use Rattle.pl_read.specs.Paths.{Step, member}
use Rattle.pl_read.specs.Faults.{fault_at, ◌>>=◌}
use Rattle.pl_read.specs.Members.{only, needed}
use Rattle.pl_read.specs.Values.{number_at, position_at, text_at, list_at}
use Rattle.pl_read.specs.Lists.{list_in, list_if_there, key_at, columns_at, call_at}
use Rattle.pl_read.specs.Exprs.{expr_at}
use Rattle.pl_read.specs.Nodes.{names_of, shape_at, within_filter, test_at, head_at, over, shaped, node_at, child_in, within_plan, plan_at, plans_at}
use Rattle.pl_read.proofs.Steps.{same_Ok, came, held, found, list_length, list_all}

-- ---- what a node says itself

abbrev IsSmallStage : Stage → Type 0
IsSmallStage (stage.Single group calls) = (length group ≤ 1024) × (length calls ≤ 1024)
IsSmallStage (stage.Partial group calls) = (length group ≤ 1024) × (length calls ≤ 1024)
IsSmallStage stage.Final = ⊤

abbrev IsSmall : Head → Type 0
IsSmall (head.Filter test) = length (entries_of test) ≤ 256
IsSmall (head.Project columns) = length columns ≤ 1024
IsSmall (head.Limit count) = ⊤
IsSmall (head.Sort keys) = ⊤
IsSmall (head.Agg s) = IsSmallStage s
IsSmall (head.Gather order) = ⊤
IsSmall (head.Redistribute keys) = ⊤
IsSmall head.Broadcast = ⊤

test_is_small : (path : List Step) (d : Data) (test : Expr) → test_at path d ≡ Ok test → length (entries_of test) ≤ 256
test_is_small path d test e =
    came (expr_at path d) (within_filter path) test e (λ t _ e1.
    let h = held (nat_le (length (entries_of t)) 256) t test (fault_at path Range) e1 in
    subst (λ x. length (entries_of x) ≤ 256) h.1 (leb-true (length (entries_of t)) 256 h.0))

list_is_small : {A : Type 0} (read : List Step → Data → Result A DocFault) (least : ℕ) (path : List Step) (name : List ℕ) (d : Data) (xs : List A) → list_in read least path name d ≡ Ok xs → length xs ≤ 1024
list_is_small read least path name d xs e = found (list_at read least 1024) path name d xs e (λ v e1. list_length read least 1024 (member name ∷ path) v xs e1)

stage_is_small : (make : List ℕ → List Call → Stage) → ((group : List ℕ) (calls : List Call) → length group ≤ 1024 → length calls ≤ 1024 → IsSmallStage (make group calls)) → (path : List Step) (d : Data) (h : Head)
    → (list_in position_at 0 path (codes "group") d >>= λ group. list_in call_at 0 path (codes "calls") d >>= λ calls. Ok (head.Agg (make group calls))) ≡ Ok h → IsSmall h
stage_is_small make small path d h e =
    came (list_in position_at 0 path (codes "group") d) (λ group. list_in call_at 0 path (codes "calls") d >>= λ calls. Ok (head.Agg (make group calls))) h e (λ group is e1.
    came (list_in call_at 0 path (codes "calls") d) (λ calls. Ok (head.Agg (make group calls))) h e1 (λ calls are e2.
    subst IsSmall (same_Ok (head.Agg (make group calls)) h e2) (small group calls (list_is_small position_at 0 path (codes "group") d group is) (list_is_small call_at 0 path (codes "calls") d calls are))))

head_is_small : (upper : Upper) (path : List Step) (d : Data) (h : Head) → head_at upper path d ≡ Ok h → IsSmall h
head_is_small Filter path d h e =
    came (needed test_at path (codes "where") d) (λ test. Ok (head.Filter test)) h e (λ test is e1.
    subst IsSmall (same_Ok (head.Filter test) h e1) (found test_at path (codes "where") d test is (λ v e2. test_is_small (member (codes "where") ∷ path) v test e2)))
head_is_small Project path d h e =
    came (list_in position_at 0 path (codes "columns") d) (λ columns. Ok (head.Project columns)) h e (λ columns is e1.
    subst IsSmall (same_Ok (head.Project columns) h e1) (list_is_small position_at 0 path (codes "columns") d columns is))
head_is_small Limit path d h e =
    came (needed (number_at 0 9223372036854775807) path (codes "count") d) (λ count. Ok (head.Limit count)) h e (λ count is e1.
    subst IsSmall (same_Ok (head.Limit count) h e1) tt)
head_is_small Sort path d h e =
    came (list_in key_at 1 path (codes "keys") d) (λ keys. Ok (head.Sort keys)) h e (λ keys is e1. subst IsSmall (same_Ok (head.Sort keys) h e1) tt)
head_is_small Single path d h e = stage_is_small stage.Single (λ group calls g c. (g, c)) path d h e
head_is_small Partial path d h e = stage_is_small stage.Partial (λ group calls g c. (g, c)) path d h e
head_is_small Final path d h e = subst IsSmall (same_Ok (head.Agg stage.Final) h e) tt
head_is_small Gather path d h e =
    came (list_if_there key_at 1 path (codes "order") d) (λ order. Ok (head.Gather order)) h e (λ order is e1. subst IsSmall (same_Ok (head.Gather order) h e1) tt)
head_is_small Redistribute path d h e =
    came (list_in position_at 1 path (codes "keys") d) (λ keys. Ok (head.Redistribute keys)) h e (λ keys is e1. subst IsSmall (same_Ok (head.Redistribute keys) h e1) tt)
head_is_small Broadcast path d h e = subst IsSmall (same_Ok head.Broadcast h e) tt

-- ---- trees

scan_tree : (table : List ℕ) → tree_of (node.Scan table) ≡ tree.Scan table
scan_tree table = search (rules, the_lemmas)

filter_tree : (test : Expr) (c : Node) → tree_of (node.Filter test c) ≡ tree.Filter test (tree_of c)
filter_tree test c = search (rules, the_lemmas)

project_tree : (columns : List ℕ) (c : Node) → tree_of (node.Project columns c) ≡ tree.Project columns (tree_of c)
project_tree columns c = search (rules, the_lemmas)

limit_tree : (count : ℕ) (c : Node) → tree_of (node.Limit count c) ≡ tree.Limit count (tree_of c)
limit_tree count c = search (rules, the_lemmas)

sort_tree : (keys : List Key) (c : Node) → tree_of (node.Sort keys c) ≡ tree.Sort keys (tree_of c)
sort_tree keys c = search (rules, the_lemmas)

join_tree : (l r : Node) (pairs : List Pair) → tree_of (node.Join l r pairs) ≡ tree.Join pairs (tree_of l) (tree_of r)
join_tree l r pairs = search (rules, the_lemmas)

agg_tree : (s : Stage) (c : Node) → tree_of (node.Agg s c) ≡ staged s (tree_of c)
agg_tree s c = search (rules, the_lemmas)

gather_tree : (order : Option (List Key)) (c : Node) → tree_of (node.Gather order c) ≡ tree.Gather order (tree_of c)
gather_tree order c = search (rules, the_lemmas)

redistribute_tree : (keys : List ℕ) (c : Node) → tree_of (node.Redistribute keys c) ≡ tree.Redistribute keys (tree_of c)
redistribute_tree keys c = search (rules, the_lemmas)

broadcast_tree : (c : Node) → tree_of (node.Broadcast c) ≡ tree.Broadcast (tree_of c)
broadcast_tree c = search (rules, the_lemmas)

-- ---- nodes

abbrev AreSmall : Node → Type 0
AreSmall n = HasSizes (tree_of n)

staged_is_small : (s : Stage) (t : tree.Tree) → IsSmallStage s → HasSizes t → HasSizes (staged s t)
staged_is_small (stage.Single group calls) t small rest = (small.0, small.1, rest)
staged_is_small (stage.Partial group calls) t small rest = (small.0, small.1, rest)
staged_is_small stage.Final t small rest = rest

over_is_small : (h : Head) (c : Node) → IsSmall h → AreSmall c → AreSmall (over h c)
over_is_small (head.Filter test) c small rest = subst HasSizes (sym (filter_tree test c)) (small, rest)
over_is_small (head.Project columns) c small rest = subst HasSizes (sym (project_tree columns c)) (small, rest)
over_is_small (head.Limit count) c small rest = subst HasSizes (sym (limit_tree count c)) rest
over_is_small (head.Sort keys) c small rest = subst HasSizes (sym (sort_tree keys c)) rest
over_is_small (head.Agg s) c small rest = subst HasSizes (sym (agg_tree s c)) (staged_is_small s (tree_of c) small rest)
over_is_small (head.Gather order) c small rest = subst HasSizes (sym (gather_tree order c)) rest
over_is_small (head.Redistribute keys) c small rest = subst HasSizes (sym (redistribute_tree keys c)) rest
over_is_small head.Broadcast c small rest = subst HasSizes (sym (broadcast_tree c)) rest

-- a reading that gives small nodes alone
abbrev GivesSmall : Result Node DocFault → Type 0
GivesSmall r = (n : Node) → r ≡ Ok n → AreSmall n

shaped_is_small : (shape : Shape) (path : List Step) (d : Data) (child left right : Result Node DocFault) → GivesSmall child → GivesSmall left → GivesSmall right → GivesSmall (shaped shape path d child left right)
shaped_is_small Scan path d child left right c l r n e =
    came (needed text_at path (codes "table") d) (λ table. Ok (node.Scan table)) n e (λ table _ e1.
    subst AreSmall (same_Ok (node.Scan table) n e1) (subst HasSizes (sym (scan_tree table)) tt))
shaped_is_small Join path d child left right c l r n e =
    came left (λ a. right >>= λ b. list_in columns_at 0 path (codes "on") d >>= λ pairs. Ok (node.Join a b pairs)) n e (λ a is_a e1.
    came right (λ b. list_in columns_at 0 path (codes "on") d >>= λ pairs. Ok (node.Join a b pairs)) n e1 (λ b is_b e2.
    came (list_in columns_at 0 path (codes "on") d) (λ pairs. Ok (node.Join a b pairs)) n e2 (λ pairs _ e3.
    subst AreSmall (same_Ok (node.Join a b pairs) n e3) (subst HasSizes (sym (join_tree a b pairs)) (l a is_a, r b is_b)))))
shaped_is_small (Over upper) path d child left right c l r n e =
    came (head_at upper path d) (λ h. child >>= λ x. Ok (over h x)) n e (λ h is_h e1.
    came child (λ x. Ok (over h x)) n e1 (λ x is_x e2.
    subst AreSmall (same_Ok (over h x) n e2) (over_is_small h x (head_is_small upper path d h is_h) (c x is_x))))

by_order : (o : Ordering) (rest here : Result Node DocFault) → GivesSmall rest → GivesSmall here → GivesSmall (match_ordering o rest here rest)
by_order Less rest here r h = r
by_order Equal rest here r h = h
by_order Greater rest here r h = r

mutual
  node_is_small : (path : List Step) (d : Data) → GivesSmall (node_at path d)
  node_is_small path null n e = absurd cc
  node_is_small path (boolean b) n e = absurd cc
  node_is_small path (number x) n e = absurd cc
  node_is_small path (string text) n e = absurd cc
  node_is_small path (array ds) n e = absurd cc
  node_is_small path (object ms) n e =
      let child = child_in path (codes "child") ms in
      let left = child_in path (codes "left") ms in
      let right = child_in path (codes "right") ms in
      came (shape_at path (object ms)) (λ shape. only path (names_of shape) ms >>= λ _. shaped shape path (object ms) child left right) n e (λ shape _ e1.
      came (only path (names_of shape) ms) (λ _. shaped shape path (object ms) child left right) n e1 (λ _ _ e2.
      shaped_is_small shape path (object ms) child left right (child_is_small path (codes "child") ms) (child_is_small path (codes "left") ms) (child_is_small path (codes "right") ms) n e2))

  child_is_small : (path : List Step) (name : List ℕ) (ms : Members) → GivesSmall (child_in path name ms)
  child_is_small path name no_members n e = absurd cc
  child_is_small path name (json.member l d ms) n e =
      by_order (slice_cmp nat_cmp name l) (child_in path name ms) (node_at (member name ∷ path) d) (child_is_small path name ms) (node_is_small (member name ∷ path) d) n e

-- ---- plans

plan_is_plan : (path : List Step) (d : Data) (plan : Plan) → plan_at path d ≡ Ok plan → IsPlan (tree_in plan)
plan_is_plan path d plan e =
    came (node_at path d) (within_plan path) plan e (λ root is e1.
    let made : Plan = record { root = root } in
    let h = held (nat_le (nodes_in (tree_of root)) 64) made plan (fault_at path Range) e1 in
    subst (λ x. IsPlan (tree_in x)) h.1 (record { nodes = leb-true (nodes_in (tree_of root)) 64 h.0; sizes = node_is_small path d root is }))

pub plans_are_plans : (path : List Step) (d : Data) (plans : List Plan) → plans_at path d ≡ Ok plans → AllByRecursion (λ plan. IsPlan (tree_in plan)) plans
plans_are_plans path d plans e = list_all (λ plan. IsPlan (tree_in plan)) plan_at plan_is_plan 0 64 path d plans e
