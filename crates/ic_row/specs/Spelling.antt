-- The bytes of a row.
use Rattle.std.specs.Prelude.{◌≡◌, ℕ, ℤ, ◌<◌, ◌^◌, List, [], ◌∷◌, ◌++◌, length}
use Rattle.std.specs.Int.{w16, w32, w64, w128, to_be_bytes, cast_unsigned}
use Rattle.std.specs.Int.RustNames.{FitsSigned}
use Rattle.std.specs.List.{flat_map, AllByRecursion}
use Rattle.std.specs.Str.{IsUtf8}
use Rattle.ic_row.specs.declared.value.Value.{Value}
use Rattle.ic_row.specs.declared.value.Value.TheVariants.{Null, Int, Wide, Chars}

-- a tag and eight bytes in two's complement, big-endian
unfoldable pub int_spelling : ℤ → List ℕ
int_spelling n = 1 ∷ to_be_bytes w64 (cast_unsigned w64 n)

-- a tag, the length in four bytes, big-endian, and the text
unfoldable pub text_spelling : List ℕ → List ℕ
text_spelling text = 2 ∷ (to_be_bytes w32 (length text) ++ text)

-- a tag and sixteen bytes in two's complement, big-endian
unfoldable pub wide_spelling : ℤ → List ℕ
wide_spelling n = 3 ∷ to_be_bytes w128 (cast_unsigned w128 n)

-- a null is a tag alone
abbrev pub value_spelling : Value → List ℕ
value_spelling Null = 0 ∷ []
value_spelling (Int n) = int_spelling n
value_spelling (Chars text) = text_spelling text
value_spelling (Wide n) = wide_spelling n

-- the number of values in two bytes, big-endian, and the values
unfoldable pub spelling_of : List Value → List ℕ
spelling_of row = to_be_bytes w16 (length row) ++ flat_map value_spelling row

-- a text has fewer than 2 ^ 32 bytes
abbrev pub FitsLength : Value → Type 0
FitsLength (Chars text) = length text < 2 ^ 32
FitsLength _ = Unit {0}

-- a row that can be spelled: fewer than 2 ^ 16 values, and each text short enough
pub record HasLengths (row : List Value) : Type 0 where
  pub count : length row < 2 ^ 16
  pub texts : AllByRecursion FitsLength row

-- a value that the program can hold and spell: a number of its width, or a text in UTF-8 that is short enough
abbrev pub IsValue : Value → Type 0
IsValue Null = Unit {0}
IsValue (Int n) = FitsSigned w64 n
IsValue (Wide n) = FitsSigned w128 n
IsValue (Chars text) = (length text < 2 ^ 32) × IsUtf8 text

-- a row that can be spelled and read back
pub record IsRow (row : List Value) : Type 0 where
  pub count : length row < 2 ^ 16
  pub values : AllByRecursion IsValue row

-- the bytes are the spelling of the row
pub record Spells (row : List Value) (bytes : List ℕ) : Type 0 where
  pub is_row : IsRow row
  pub are : bytes ≡ spelling_of row
