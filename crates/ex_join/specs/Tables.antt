-- The right rows of a join, by their keys.
use Rattle.std.specs.Prelude.{◌≡◌, ℕ, ◌+◌, cond, List, [], ◌∷◌, ◌++◌, length, slice_get}
use Rattle.std.specs.Option.{unwrap_or}
use Rattle.std.specs.Map.{lookup, values_of}
use Rattle.pl_ops.specs.Rows.{Line}
use Rattle.pl_ops.specs.Groups.{same_line}

-- keys, each with its rows in the order in which they came
abbrev pub Buckets : Type 0
Buckets = List (Line × List Line)

-- the rows of a key; none if the key isn't there
abbrev pub bucket : Line → Buckets → List Line
bucket key table = unwrap_or (lookup (same_line key) table) []

-- the rows at a place, from 0; none past the last
abbrev pub rows_at : Buckets → ℕ → List Line
rows_at table place = unwrap_or (slice_get (values_of table) place) []

-- how many rows there are
abbrev pub total : Buckets → ℕ
total [] = 0
total (e ∷ es) = length e.1 + total es

-- the row was put after those of its key, and nothing else changed
pub record Puts (old new : Buckets) (key row : Line) : Type 0 where
  pub buckets : (k : Line) → bucket k new ≡ cond (same_line key k) (bucket k old ++ row ∷ []) (bucket k old)
  pub count : total new ≡ total old + 1
