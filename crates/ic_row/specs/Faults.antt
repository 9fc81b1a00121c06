-- At which byte bytes stop being the spelling of a row, defined by the spellings alone.
use Rattle.std.specs.Prelude.{◌≡◌, ◌≢◌, ℕ, ◌+◌, ◌<◌, ◌^◌, List, [], ◌++◌, length}
use Rattle.std.specs.Int.{w16, to_be_bytes}
use Rattle.std.specs.List.{flat_map, AllByRecursion}
use Rattle.ic_row.specs.declared.value.Value.{Value}
use Rattle.ic_row.specs.declared.reading.RowNo.{RowNo}
use Rattle.ic_row.specs.declared.reading.RowNo.TheVariants.{RowFault, Memory}
use Rattle.ic_row.specs.Spelling.{value_spelling, IsValue}

-- the bytes are a count, the spellings of some values, and a rest
pub record Begins (bytes : List ℕ) (count : ℕ) (values : List Value) (rest : List ℕ) : Type 0 where
  pub parts : bytes ≡ to_be_bytes w16 count ++ (flat_map value_spelling values ++ rest)
  pub small : count < 2 ^ 16
  pub each : AllByRecursion IsValue values

-- the bytes don't begin with any value's spelling, however it goes on
abbrev pub BeginsNoValue : List ℕ → Type 0
BeginsNoValue bytes = (value : Value) (more : List ℕ) → IsValue value → bytes ≡ value_spelling value ++ more → ⊥

-- the offset of the first byte after these values
abbrev pub end_of : List Value → ℕ
end_of values = 2 + length (flat_map value_spelling values)

-- the place of the first fault
pub data IsFaultAt (bytes : List ℕ) (place : ℕ) : Type 0 where
  -- the count can't be read
  NoCount : length bytes < 2 → place ≡ 0 → IsFaultAt bytes place
  -- fewer values than the count says can be read, and the next one can't
  NoValue : (count : ℕ) (values : List Value) (rest : List ℕ) → Begins bytes count values rest → length values < count → BeginsNoValue rest → place ≡ end_of values → IsFaultAt bytes place
  -- all values can be read, and there are bytes after the last one
  Trailing : (count : ℕ) (values : List Value) (rest : List ℕ) → Begins bytes count values rest → length values ≡ count → rest ≢ [] → place ≡ end_of values → IsFaultAt bytes place

-- a refusal names the place of the first fault, or is for being out of memory
abbrev pub IsFault : List ℕ → RowNo → Type 0
IsFault bytes (RowFault place) = IsFaultAt bytes place
IsFault bytes Memory = Unit {0}
