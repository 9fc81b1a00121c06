-- What a sort has answered of the rows that it was given.
use Rattle.std.specs.Prelude.{◌≡◌, ℕ, ◌+◌, Bool, false, if◌then◌else◌, List, [], ◌∷◌, ◌++◌, reverse, length}
use Rattle.ic_row.specs.declared.order.Key.{Key}
use Rattle.pl_ops.specs.declared.words.Side.{Side}
use Rattle.pl_ops.specs.declared.words.Side.TheVariants.{Left, Right}
use Rattle.pl_ops.specs.declared.words.Next.{Next}
use Rattle.pl_ops.specs.declared.words.Next.TheVariants.{Row, Wants, End}
use Rattle.pl_ops.specs.Rows.{Line, sort_rows}
use Rattle.pl_ops.specs.Streams.{Stream}
use Rattle.pl_ops.specs.Giving.{open_count}

-- what contracts see of a sort
pub record Sorting : Type 0 where
  pub keys : List Key
  -- the rows that it keeps: as they were given while its input goes on, and then those still to answer, by the keys
  pub kept : List Line
  -- whether it was told that no more rows come
  pub ended : Bool
  -- whether it has sorted its rows
  pub sorted : Bool
  -- whether it was refused memory
  pub failed : Bool

-- the rows of a stream as they were given, and by the keys once it has ended
abbrev pub in_turn : List Key → Bool → List Line → List Line
in_turn keys ended rows = if ended then sort_rows keys rows else rows

-- what a sort keeps: once they are sorted, the rows are in a list with the next one last
abbrev pub kept_in : Bool → List Key → Bool → List Line → List Line
kept_in sorted keys ended rows = if sorted then reverse rows else in_turn keys ended rows

-- a sort by these keys was given this stream, and has answered these rows
pub record Gives (keys : List Key) (sort : Sorting) (s : Stream) (a : List Line) : Type 0 where
  pub keys_are : sort.keys ≡ keys
  pub told : sort.ended ≡ s.ended
  pub none_before : s.ended ≡ false → a ≡ []
  pub rows : a ++ sort.kept ≡ in_turn keys s.ended s.rows

-- it wants a row of this side
abbrev pub IsWanting : Side → Sorting → Type 0
IsWanting Left sort = sort.ended ≡ false
IsWanting Right sort = ⊥

-- how many more steps it can make: rows to answer, and one for an input that goes on
abbrev pub work : Sorting → ℕ
work sort = length sort.kept + open_count sort.ended

-- what one answer takes of the rows that are left: the first, if there is one
abbrev pub Leaves : List Line → List Line → Next → Type 0
Leaves old new (Row row) = old ≡ row ∷ new
Leaves old new (Wants side) = ⊥
Leaves old new End = (old ≡ []) × (new ≡ [])
