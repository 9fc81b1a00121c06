-- How counts of rows are related to the rows.
use Rattle.std.specs.Prelude.{◌≡◌, ℕ, min, List, length, Bool}
use Rattle.ic_row.specs.declared.value.Value.{Value}
use Rattle.ic_chunk.specs.Assembly.{Assembles}
use Rattle.ic_chunk.specs.Counts.{HaveEnded, HasCounted, greatest_count}

-- the number of rows that end in some payloads is the number of rows that they assemble to
abbrev pub CountsRows : Type 0
CountsRows = (payloads : List (List ℕ)) (rows : List (List Value)) (rest : List ℕ) (ended : Bool) (n : ℕ) → Assembles payloads rows rest ended → HaveEnded payloads n → n ≡ length rows

-- a count of 64 bits is that number, up to its greatest value
abbrev pub CountTells : Type 0
CountTells = (payloads : List (List ℕ)) (rows : List (List Value)) (rest : List ℕ) (ended : Bool) (n : ℕ) → Assembles payloads rows rest ended → HasCounted payloads n → n ≡ min greatest_count (length rows)
