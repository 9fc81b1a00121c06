-- What a filter has answered of the rows that it was given.
use Rattle.std.specs.Prelude.{◌≡◌, ℕ, ◌+◌, Bool, false, List, [], ◌++◌, length}
use Rattle.pl_expr.specs.declared.expr.Expr.{Expr}
use Rattle.pl_ops.specs.declared.words.Side.{Side}
use Rattle.pl_ops.specs.declared.words.Side.TheVariants.{Left, Right}
use Rattle.pl_ops.specs.Rows.{Line, filter_rows}
use Rattle.pl_ops.specs.Streams.{Stream}
use Rattle.pl_ops.specs.Giving.{open_count}

-- what contracts see of a filter
pub record Filtering : Type 0 where
  pub test : Expr
  -- the rows that it still has to answer
  pub pending : List Line
  -- whether it was told that no more rows come
  pub ended : Bool

-- a filter by this predicate was given this stream, and has answered these rows
pub record Gives (test : Expr) (filter : Filtering) (s : Stream) (a : List Line) : Type 0 where
  pub test_is : filter.test ≡ test
  pub told : filter.ended ≡ s.ended
  pub rows : a ++ filter.pending ≡ filter_rows test s.rows

-- it wants a row of this side
abbrev pub IsWanting : Side → Filtering → Type 0
IsWanting Left filter = (filter.ended ≡ false) × (filter.pending ≡ [])
IsWanting Right filter = ⊥

-- how many more steps it can make: rows to answer, and one for an input that goes on
abbrev pub work : Filtering → ℕ
work filter = length filter.pending + open_count filter.ended
