-- The logical plan, and its meaning: a bag of rows over whole tables.
use Rattle.std.specs.Prelude.{ℕ, List, [], Option, Some, None, slice_get}
use Rattle.ic_row.specs.declared.order.Key.{Key}
use Rattle.pl_expr.specs.declared.expr.Expr.{Expr}
use Rattle.pl_tree.specs.declared.node.Pair.{Pair}
use Rattle.pl_tree.specs.declared.node.Call.{Call}
use Rattle.pl_tree.specs.declared.schema.Schema.{Schema}
use Rattle.pl_tree.specs.Trees.{Tree, Scan, Filter, Project, Limit, Sort, Join, Single, Partial, Final, Gather, Redistribute, Broadcast}
use Rattle.pl_ops.specs.Rows.{Line, filter_rows, project_rows, join_rows}
use Rattle.pl_ops.specs.Groups.{aggregate_rows}
use Rattle.pl_ops.specs.Placed.{or_none}
use Rattle.pl_mean.specs.Parts.{number_from}

-- a plan with no motions and no limits, in which each aggregate has one stage
pub data Logical : Type 0 where
  Whole : List ℕ → Logical
  Filtered : Expr → Logical → Logical
  Projected : List ℕ → Logical → Logical
  Sorted : List Key → Logical → Logical
  Paired : List Pair → Logical → Logical → Logical
  Aggregated : List ℕ → List Call → Logical → Logical

-- A final over its partial, with a motion between or without, is one aggregate with the partial's group and calls. The
-- root's limit is no part of it: which rows of the meaning an answer has is said where answers are.
abbrev pub logical : Tree → Logical
logical (Scan t) = Whole t
logical (Filter e c) = Filtered e (logical c)
logical (Project cols c) = Projected cols (logical c)
logical (Limit n c) = logical c
logical (Sort ks c) = Sorted ks (logical c)
logical (Join on l r) = Paired on (logical l) (logical r)
logical (Single g cs c) = Aggregated g cs (logical c)
logical (Partial g cs c) = Aggregated g cs (logical c)
logical (Final c) = logical c
logical (Gather o c) = logical c
logical (Redistribute ks c) = logical c
logical (Broadcast c) = logical c

-- the rows of the table of this number
abbrev pub whole_of : List (List Line) → Option ℕ → List Line
whole_of wholes None = []
whole_of wholes (Some n) = or_none (slice_get wholes n)

-- The rows of a logical plan over whole tables, one list of rows for each schema. Its order means nothing: answers are
-- compared with it as bags.
abbrev pub meaning : List Schema → List (List Line) → Logical → List Line
meaning s wholes (Whole t) = whole_of wholes (number_from 0 t s)
meaning s wholes (Filtered e c) = filter_rows e (meaning s wholes c)
meaning s wholes (Projected cols c) = project_rows cols (meaning s wholes c)
meaning s wholes (Sorted ks c) = meaning s wholes c
meaning s wholes (Paired on l r) = join_rows on (meaning s wholes r) (meaning s wholes l)
meaning s wholes (Aggregated g cs c) = aggregate_rows g cs (meaning s wholes c)
