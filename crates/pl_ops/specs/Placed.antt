-- The rows of the tables at each segment.
use Rattle.std.specs.Prelude.{ℕ, ℤ, pos, negsuc, List, [], slice_get, Option, Some, None}
use Rattle.pl_ops.specs.declared.loaded.Spread.{Spread}
use Rattle.pl_ops.specs.declared.loaded.Spread.TheVariants.{Apart, Everywhere}
use Rattle.pl_ops.specs.Rows.{Line}

abbrev pub or_none : Option (List Line) → List Line
or_none None = []
or_none (Some rows) = rows

-- the dispatcher has no rows
abbrev pub part_at : List (List Line) → ℤ → List Line
part_at parts (pos n) = or_none (slice_get parts n)
part_at parts (negsuc n) = []

abbrev pub spread_at : Spread → ℤ → List Line
spread_at (Apart parts) at = part_at parts at
spread_at (Everywhere rows) (pos n) = rows
spread_at (Everywhere rows) (negsuc n) = []

abbrev pub in_table : Option Spread → ℤ → List Line
in_table None at = []
in_table (Some spread) at = spread_at spread at

-- the rows of the table of this number, from 0
abbrev pub rows_at : List Spread → ℕ → ℤ → List Line
rows_at tables table at = in_table (slice_get tables table) at
