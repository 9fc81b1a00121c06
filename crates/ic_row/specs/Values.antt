-- Values and rows as contracts see them.
use Rattle.std.specs.Prelude.{◌≡◌, ℕ, Bool, true, false, List, get_or, map, Option, Some, None}
use Rattle.std.specs.Borrow.{Bor}
use Rattle.ic_row.specs.declared.value.Value.{Value}
use Rattle.ic_row.specs.declared.value.Value.TheVariants.{Null, Int, Wide, Chars}
use Rattle.ic_row.specs.declared.value.Kind.{Kind}
use Rattle.ic_row.specs.declared.value.Kind.TheVariants as kinds

-- another name for Value: `impl Model` has a member called `Value`
abbrev pub Datum : Type 0
Datum = Value

-- whether the value is null
abbrev pub is_null : Value → Bool
is_null Null = true
is_null _ = false

-- the value, or None if it is null
abbrev pub Presents : Option (Bor Value) → Value → Type 0
Presents None value = value ≡ Null
Presents (Some found) value = (found.now ≡ value) × (is_null found.now ≡ false)

-- the kind, or None if the value is null
abbrev pub kind_of : Value → Option Kind
kind_of Null = None
kind_of (Int n) = Some kinds.Int
kind_of (Wide n) = Some kinds.Wide
kind_of (Chars t) = Some kinds.Chars

-- the value in a column, or null past the last one
abbrev pub column : List Value → ℕ → Value
column row i = get_or row i Null

-- the values in some columns, in the columns' order
abbrev pub key_of : List ℕ → List Value → List Value
key_of columns row = map (column row) columns
