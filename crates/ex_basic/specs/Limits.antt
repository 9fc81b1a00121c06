-- What a limit has answered of the rows that it was given.
use Rattle.std.specs.Prelude.{◌≡◌, ◌<◌, ℕ, ◌+◌, Bool, false, List, [], ◌++◌, length}
use Rattle.pl_ops.specs.declared.words.Side.{Side}
use Rattle.pl_ops.specs.declared.words.Side.TheVariants.{Left, Right}
use Rattle.pl_ops.specs.Rows.{Line}
use Rattle.pl_ops.specs.Streams.{Stream}
use Rattle.pl_ops.specs.Giving.{open_count}

-- what contracts see of a limit
pub record Limiting : Type 0 where
  -- how many more rows it takes
  pub left : ℕ
  -- the rows that it still has to answer
  pub pending : List Line
  -- whether it was told that no more rows come
  pub ended : Bool

-- A limit to this count was given this stream, and has answered these rows. It takes no more rows than the count, so it was
-- given no more.
pub record Gives (count : ℕ) (limit : Limiting) (s : Stream) (a : List Line) : Type 0 where
  pub left : limit.left + length s.rows ≡ count
  pub told : limit.ended ≡ s.ended
  pub rows : a ++ limit.pending ≡ s.rows

-- it wants a row of this side
abbrev pub IsWanting : Side → Limiting → Type 0
IsWanting Left limit = (limit.ended ≡ false) × (limit.pending ≡ []) × (0 < limit.left)
IsWanting Right limit = ⊥

-- how many more steps it can make: rows to answer, and one for an input that goes on
abbrev pub work : Limiting → ℕ
work limit = length limit.pending + open_count limit.ended
