-- The results of the calls of one group.
use Rattle.std.specs.Prelude.{◌≡◌, ℕ, ◌+◌, ◌+ℤ◌, ◌<◌, Bool, if◌then◌else◌, List, [], ◌∷◌, length, map, get_or, slice_set}
use Rattle.ic_row.specs.declared.value.Value.{Value}
use Rattle.ic_row.specs.declared.value.Value.TheVariants.{Null, Wide}
use Rattle.ic_row.specs.Values.{column}
use Rattle.pl_tree.specs.declared.node.Call.{Call}
use Rattle.pl_ops.specs.Rows.{Line}
use Rattle.pl_ops.specs.Groups.{number_in, joined_value, brought, over}
use Rattle.pl_ops.specs.Overflow.{HasRoom}

abbrev pub wide_sum : Value → Value → Value
wide_sum a b = Wide (number_in a +ℤ number_in b)

-- What a row brings to a call. The rows of a final are rows of its partial: they bring the partial's result, which is in this
-- column.
abbrev pub brought_at : Bool → ℕ → Call → Line → Value
brought_at final c call row = if final then column row c else brought call row

-- of one group the results of all calls, of which the first is in this column
abbrev pub results : Bool → ℕ → List Call → List Line → Line
results final c [] rows = []
results final c (call ∷ calls) rows = over call (map (brought_at final c call) rows) ∷ results final (c + 1) calls rows

-- ---- one row more

-- the results once one row more is in the group
abbrev pub renewed : Bool → ℕ → List Call → Line → Line → Line
renewed final c [] values row = values
renewed final c (call ∷ calls) [] row = []
renewed final c (call ∷ calls) (value ∷ values) row = joined_value call value (brought_at final c call row) ∷ renewed final (c + 1) calls values row

-- the result of each call has room
abbrev pub HaveRoom : List Call → Line → Type 0
HaveRoom [] values = Unit {0}
HaveRoom (call ∷ calls) [] = Unit {0}
HaveRoom (call ∷ calls) (value ∷ values) = HasRoom value × HaveRoom calls values

-- the result at a place once one row more is in the group
abbrev pub next_at : Bool → ℕ → Call → Line → ℕ → Line → Value
next_at final c call values i row = joined_value call (get_or values i Null) (brought_at final c call row)

-- that result was put at its place, and has room
abbrev pub RenewsAt : Bool → ℕ → Call → Line → ℕ → Line → Line → Type 0
RenewsAt final c call old i row new = (new ≡ slice_set old i (next_at final c call old i row)) × (i < length old → HasRoom (next_at final c call old i row))

-- that result has no room
abbrev pub IsOverAt : Bool → ℕ → Call → Line → ℕ → Line → Type 0
IsOverAt final c call old i row = (i < length old) × (HasRoom (next_at final c call old i row) → ⊥)
