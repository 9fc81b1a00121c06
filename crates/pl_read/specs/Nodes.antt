-- Nodes of a plan.
use Rattle.std.specs.Prelude.{ℕ, List, [], ◌∷◌, codes, length, nat_le, if◌then◌else◌, Option, Some, None, Result, Ok}
use Rattle.std.specs.Cmp.Lexicographic.{slice_cmp}
use Rattle.std.specs.Ordering.{nat_cmp, match_ordering}
use Rattle.std.specs.Str.{bytes_eq}
use Rattle.serde_json.specs.Data.{Data, null, boolean, number, string, array, object, Members, no_members}
use Rattle.serde_json.specs.Data as json
use Rattle.pl_expr.specs.declared.expr.Expr.{Expr}
use Rattle.pl_expr.specs.Entries.{entries_of}
use Rattle.pl_tree.specs.declared.node.Stage.TheVariants as stage
use Rattle.pl_tree.specs.declared.node.Node.{Node}
use Rattle.pl_tree.specs.declared.node.Node as node
use Rattle.pl_tree.specs.declared.node.Plan.{Plan}
use Rattle.pl_tree.specs.Trees.{tree_of, nodes_in}
use Rattle.pl_read.specs.declared.fault.DocFault.{DocFault}
use Rattle.pl_read.specs.declared.fault.Flaw.TheVariants.{Missing, Kind, Range}
use Rattle.pl_read.specs.declared.node.Shape.{Shape}
use Rattle.pl_read.specs.declared.node.Shape.TheVariants.{Scan, Join, Over}
use Rattle.pl_read.specs.declared.node.Upper.{Upper}
use Rattle.pl_read.specs.declared.node.Upper.TheVariants.{Filter, Project, Limit, Sort, Single, Partial, Final, Gather, Redistribute, Broadcast}
use Rattle.pl_read.specs.declared.node.Op.{Op}
use Rattle.pl_read.specs.declared.node.Op.TheVariants.{Is, Agg}
use Rattle.pl_read.specs.declared.node.Head.{Head}
use Rattle.pl_read.specs.declared.node.Head.TheVariants as head
use Rattle.pl_read.specs.Paths.{Step, member}
use Rattle.pl_read.specs.Faults.{refused, or_refused, ◌>>=◌}
use Rattle.pl_read.specs.Members.{object_at, only, needed}
use Rattle.pl_read.specs.Values.{number_at, position_at, text_at, list_at}
use Rattle.pl_read.specs.Lists.{list_in, list_if_there, key_at, columns_at, call_at}
use Rattle.pl_read.specs.Exprs.{expr_at}

-- ---- what a node is

abbrev pub op_of : List ℕ → Option Op
op_of word =
    if bytes_eq word (codes "scan") then Some (Is Scan) else
    (if bytes_eq word (codes "filter") then Some (Is (Over Filter)) else
    (if bytes_eq word (codes "project") then Some (Is (Over Project)) else
    (if bytes_eq word (codes "limit") then Some (Is (Over Limit)) else
    (if bytes_eq word (codes "sort") then Some (Is (Over Sort)) else
    (if bytes_eq word (codes "join") then Some (Is Join) else
    (if bytes_eq word (codes "agg") then Some Agg else
    (if bytes_eq word (codes "gather") then Some (Is (Over Gather)) else
    (if bytes_eq word (codes "redistribute") then Some (Is (Over Redistribute)) else
    (if bytes_eq word (codes "broadcast") then Some (Is (Over Broadcast)) else None)))))))))

abbrev pub op_at : List Step → Data → Result Op DocFault
op_at path d = text_at path d >>= λ word. or_refused (op_of word) path Kind

abbrev pub stage_of : List ℕ → Option Upper
stage_of word =
    if bytes_eq word (codes "single") then Some Single else
    (if bytes_eq word (codes "partial") then Some Partial else
    (if bytes_eq word (codes "final") then Some Final else None))

abbrev pub stage_at : List Step → Data → Result Upper DocFault
stage_at path d = text_at path d >>= λ word. or_refused (stage_of word) path Kind

abbrev pub shape_in : List Step → Data → Op → Result Shape DocFault
shape_in path d (Is shape) = Ok shape
shape_in path d Agg = needed stage_at path (codes "stage") d >>= λ upper. Ok (Over upper)

-- a node's word comes first, and then an aggregate's stage
abbrev pub shape_at : List Step → Data → Result Shape DocFault
shape_at path d = needed op_at path (codes "op") d >>= shape_in path d

-- ---- its members

abbrev pub names_over : Upper → List (List ℕ)
names_over Filter = codes "op" ∷ codes "where" ∷ codes "child" ∷ []
names_over Project = codes "op" ∷ codes "columns" ∷ codes "child" ∷ []
names_over Limit = codes "op" ∷ codes "count" ∷ codes "child" ∷ []
names_over Sort = codes "op" ∷ codes "keys" ∷ codes "child" ∷ []
names_over Single = codes "op" ∷ codes "stage" ∷ codes "group" ∷ codes "calls" ∷ codes "child" ∷ []
names_over Partial = codes "op" ∷ codes "stage" ∷ codes "group" ∷ codes "calls" ∷ codes "child" ∷ []
names_over Final = codes "op" ∷ codes "stage" ∷ codes "child" ∷ []
names_over Gather = codes "op" ∷ codes "order" ∷ codes "child" ∷ []
names_over Redistribute = codes "op" ∷ codes "keys" ∷ codes "child" ∷ []
names_over Broadcast = codes "op" ∷ codes "child" ∷ []

abbrev pub names_of : Shape → List (List ℕ)
names_of Scan = codes "op" ∷ codes "table" ∷ []
names_of Join = codes "op" ∷ codes "left" ∷ codes "right" ∷ codes "on" ∷ []
names_of (Over upper) = names_over upper

-- ---- what it says itself

abbrev pub within_filter : List Step → Expr → Result Expr DocFault
within_filter path test = if nat_le (length (entries_of test)) 256 then Ok test else refused path Range

-- at most 256 expressions and operands, counted once all else was judged
abbrev pub test_at : List Step → Data → Result Expr DocFault
test_at path d = expr_at path d >>= within_filter path

-- the members of a node over one other, before its child
abbrev pub head_at : Upper → List Step → Data → Result Head DocFault
head_at Filter path d = needed test_at path (codes "where") d >>= λ test. Ok (head.Filter test)
head_at Project path d = list_in position_at 0 path (codes "columns") d >>= λ columns. Ok (head.Project columns)
head_at Limit path d = needed (number_at 0 9223372036854775807) path (codes "count") d >>= λ count. Ok (head.Limit count)
head_at Sort path d = list_in key_at 1 path (codes "keys") d >>= λ keys. Ok (head.Sort keys)
head_at Single path d =
    list_in position_at 0 path (codes "group") d >>= λ group.
    list_in call_at 0 path (codes "calls") d >>= λ calls.
    Ok (head.Agg (stage.Single group calls))
head_at Partial path d =
    list_in position_at 0 path (codes "group") d >>= λ group.
    list_in call_at 0 path (codes "calls") d >>= λ calls.
    Ok (head.Agg (stage.Partial group calls))
head_at Final path d = Ok (head.Agg stage.Final)
head_at Gather path d = list_if_there key_at 1 path (codes "order") d >>= λ order. Ok (head.Gather order)
head_at Redistribute path d = list_in position_at 1 path (codes "keys") d >>= λ keys. Ok (head.Redistribute keys)
head_at Broadcast path d = Ok head.Broadcast

abbrev pub over : Head → Node → Node
over (head.Filter test) child = node.Filter test child
over (head.Project columns) child = node.Project columns child
over (head.Limit count) child = node.Limit count child
over (head.Sort keys) child = node.Sort keys child
over (head.Agg stage) child = node.Agg stage child
over (head.Gather order) child = node.Gather order child
over (head.Redistribute keys) child = node.Redistribute keys child
over head.Broadcast child = node.Broadcast child

abbrev pub scan_at : List Step → Data → Result Node DocFault
scan_at path d = needed text_at path (codes "table") d >>= λ table. Ok (node.Scan table)

-- ---- nodes

-- a node of this shape, with the nodes that its members read as
abbrev pub shaped : Shape → List Step → Data → Result Node DocFault → Result Node DocFault → Result Node DocFault → Result Node DocFault
shaped Scan path d child left right = scan_at path d
shaped Join path d child left right =
    left >>= λ l. right >>= λ r. list_in columns_at 0 path (codes "on") d >>= λ pairs. Ok (node.Join l r pairs)
shaped (Over upper) path d child left right = head_at upper path d >>= λ h. child >>= λ c. Ok (over h c)

-- a node, whose members that are nodes read as this says
abbrev pub node_with : (List Step → Data → Result Node DocFault) → List Step → Data → Result Node DocFault
node_with read path d =
    object_at path d >>= λ ms.
    shape_at path d >>= λ shape.
    only path (names_of shape) ms >>= λ _.
    shaped shape path d (needed read path (codes "child") d) (needed read path (codes "left") d) (needed read path (codes "right") d)

abbrev mutual
  pub node_at : List Step → Data → Result Node DocFault
  node_at path null = refused path Kind
  node_at path (boolean b) = refused path Kind
  node_at path (number n) = refused path Kind
  node_at path (string text) = refused path Kind
  node_at path (array ds) = refused path Kind
  node_at path (object ms) =
      shape_at path (object ms) >>= λ shape.
      only path (names_of shape) ms >>= λ _.
      shaped shape path (object ms) (child_in path (codes "child") ms) (child_in path (codes "left") ms) (child_in path (codes "right") ms)

  -- the member of this name, read as a node in its place
  pub child_in : List Step → List ℕ → Members → Result Node DocFault
  child_in path name no_members = refused (member name ∷ path) Missing
  child_in path name (json.member l d ms) =
      match_ordering (slice_cmp nat_cmp name l) (child_in path name ms) (node_at (member name ∷ path) d) (child_in path name ms)

abbrev pub shaped_at : Shape → List Step → Data → Result Node DocFault
shaped_at shape path d =
    shaped shape path d (needed node_at path (codes "child") d) (needed node_at path (codes "left") d) (needed node_at path (codes "right") d)

-- at most 64 nodes, counted once all else was judged
abbrev pub within_plan : List Step → Node → Result Plan DocFault
within_plan path root = if nat_le (nodes_in (tree_of root)) 64 then Ok (record { root = root }) else refused path Range

abbrev pub plan_at : List Step → Data → Result Plan DocFault
plan_at path d = node_at path d >>= within_plan path

abbrev pub plans_at : List Step → Data → Result (List Plan) DocFault
plans_at path d = list_at plan_at 0 64 path d
