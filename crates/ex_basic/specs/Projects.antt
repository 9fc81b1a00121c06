-- What a project has answered of the rows that it was given.
use Rattle.std.specs.Prelude.{◌≡◌, ℕ, ◌+◌, Bool, false, List, [], ◌++◌, length}
use Rattle.pl_ops.specs.declared.words.Side.{Side}
use Rattle.pl_ops.specs.declared.words.Side.TheVariants.{Left, Right}
use Rattle.pl_ops.specs.Rows.{Line, project_rows}
use Rattle.pl_ops.specs.Streams.{Stream}
use Rattle.pl_ops.specs.Giving.{open_count}

-- what contracts see of a project
pub record Projecting : Type 0 where
  pub columns : List ℕ
  -- the rows that it still has to answer
  pub pending : List Line
  -- whether it was told that no more rows come
  pub ended : Bool
  -- whether it was refused memory
  pub failed : Bool

-- a project of these columns was given this stream, and has answered these rows
pub record Gives (columns : List ℕ) (project : Projecting) (s : Stream) (a : List Line) : Type 0 where
  pub columns_are : project.columns ≡ columns
  pub told : project.ended ≡ s.ended
  pub rows : a ++ project.pending ≡ project_rows columns s.rows

-- it wants a row of this side
abbrev pub IsWanting : Side → Projecting → Type 0
IsWanting Left project = (project.ended ≡ false) × (project.pending ≡ [])
IsWanting Right project = ⊥

-- how many more steps it can make: rows to answer, and one for an input that goes on
abbrev pub work : Projecting → ℕ
work project = length project.pending + open_count project.ended
