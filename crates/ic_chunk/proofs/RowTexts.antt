-- A row that is read is the one that is spelled.
use Rattle.std.proofs.Common.{◌≡◌, ℕ, List, Result, Ok, Err, ap, ◌∙◌}
use Rattle.ic_row.specs.declared.value.Value.{Value}
use Rattle.ic_row.specs.Spelling.{Spells}
use Rattle.ic_row.specs.Reading.{row_at, placed, read_row_of}
use Rattle.ic_row.proofs.RowLemmas as rows
use Rattle.ic_chunk.specs.Seen.{IsBytes}

placed_ok : (bytes : List ℕ) (r : Result (List Value) ℕ) (row : List Value) → placed bytes r ≡ Ok row → r ≡ Ok row
placed_ok bytes (Ok x) row e = e
placed_ok bytes (Err left) row e = cc

pub read_is : (bytes : List ℕ) (row : List Value) → IsBytes bytes → read_row_of bytes ≡ Ok row → Spells row bytes
read_is bytes row fits e = rows.row_takes bytes row fits (placed_ok bytes (row_at bytes) row e)

pub read_again : (bytes : List ℕ) (row : List Value) → Spells row bytes → read_row_of bytes ≡ Ok row
read_again bytes row h = ap read_row_of h.are ∙ rows.read_again row h.is_row
