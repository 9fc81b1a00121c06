-- What an operator has given so far, of the rows that it was given so far.
use Rattle.std.specs.Prelude.{◌≡◌, ℕ, Bool, true, false, ◌||◌, nat_le, if◌then◌else◌, List, [], length, take}
use Rattle.ic_row.specs.declared.order.Key.{Key}
use Rattle.pl_expr.specs.declared.expr.Expr.{Expr}
use Rattle.pl_tree.specs.declared.node.Pair.{Pair}
use Rattle.pl_tree.specs.declared.node.Call.{Call}
use Rattle.pl_ops.specs.Rows.{Line, filter_rows, project_rows, sort_rows, join_rows}
use Rattle.pl_ops.specs.Groups.{aggregate_rows, final_rows}

-- rows so far, and whether there are no more
pub record Stream : Type 0 where
  pub rows : List Line
  pub ended : Bool

abbrev pub silent : Stream
silent = record { rows = []; ended = false }

-- row by row
abbrev pub by_rows : (List Line → List Line) → Stream → Stream
by_rows f s = record { rows = f s.rows; ended = s.ended }

-- nothing before the input has ended
abbrev pub at_end : (List Line → List Line) → Stream → Stream
at_end f s = if s.ended then record { rows = f s.rows; ended = true } else silent

abbrev pub filter_stream : Expr → Stream → Stream
filter_stream test s = by_rows (filter_rows test) s

abbrev pub project_stream : List ℕ → Stream → Stream
project_stream columns s = by_rows (project_rows columns) s

abbrev pub sort_stream : List Key → Stream → Stream
sort_stream keys s = at_end (sort_rows keys) s

-- an output has ended if its input has, or if the limit is satisfied
abbrev pub limit_stream : ℕ → Stream → Stream
limit_stream n s = record { rows = take n s.rows; ended = s.ended || nat_le n (length s.rows) }

-- nothing before the right side has ended, and then row by row of the left side
abbrev pub join_stream : List Pair → Stream → Stream → Stream
join_stream pairs right left = if right.ended then by_rows (join_rows pairs right.rows) left else silent

abbrev pub aggregate_stream : List ℕ → List Call → Stream → Stream
aggregate_stream group calls s = at_end (aggregate_rows group calls) s

abbrev pub final_stream : List ℕ → List Call → Stream → Stream
final_stream group calls s = at_end (final_rows group calls) s
