-- The right rows that a left row meets.
use Rattle.std.specs.Prelude.{◌≡◌, ◌<◌, ◌≤◌, ℕ, ◌+◌, Bool, false, List, [], ◌∷◌, ◌++◌, if◌then◌else◌, length, map, drop, Option, Some, None}
use Rattle.std.specs.List.{list_any}
use Rattle.ic_row.specs.Values.{is_null, key_of}
use Rattle.pl_ops.specs.Rows.{Line}
use Rattle.pl_ops.specs.Groups.{in_group}
use Rattle.ex_join.specs.Tables.{Buckets, bucket, rows_at, total}

-- of a left row and each of these right rows, the values of both
abbrev pub beside : Line → List Line → List Line
beside left rights = map (λ right. left ++ right) rights

abbrev pub has_null : Line → Bool
has_null key = list_any is_null key

-- the right rows that a left row meets: those with its key, and none if a value of the key is null
abbrev pub met : List ℕ → Buckets → Line → List Line
met columns table row = if has_null (key_of columns row) then [] else bucket (key_of columns row) table

-- ---- what the steps of a join find

-- where the right rows that a left row meets are, if there are any
abbrev pub Looks : List ℕ → Buckets → Line → Option ℕ → Type 0
Looks columns table row None = met columns table row ≡ []
Looks columns table row (Some at) = met columns table row ≡ rows_at table at

-- the output row of the match at this place, from 0, and none past the last
abbrev pub Finds : Line → List Line → ℕ → Option Line → Type 0
Finds left matches next None = drop next matches ≡ []
Finds left matches next (Some row) = (beside left (drop next matches) ≡ row ∷ beside left (drop (next + 1) matches)) × (next < length matches)

-- a right row went to those of its key; if its key has a null, it may have been let go
pub record Keeps (columns : List ℕ) (old new : Buckets) (row : Line) : Type 0 where
  pub buckets : (key : Line) → has_null key ≡ false → bucket key new ≡ (if in_group columns key row then bucket key old ++ row ∷ [] else bucket key old)
  pub count : total new ≤ total old + 1
