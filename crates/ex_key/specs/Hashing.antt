-- What a key writes to a hasher.
use Rattle.std.specs.Prelude.{ℕ, List}
use Rattle.std.specs.List.{flat_map}
use Rattle.std.specs.Hash as fed
use Rattle.ic_row.specs.declared.value.Value.{Value}
use Rattle.ic_row.specs.declared.value.Value.TheVariants.{Null, Int, Wide, Chars}
use Rattle.pl_ops.specs.Rows.{Line}

-- a null writes one byte, a number its bytes, and a text as std's texts do
abbrev pub value_writes : Value → List (List ℕ)
value_writes Null = fed.u8 0
value_writes (Int n) = fed.i64 n
value_writes (Wide n) = fed.i128 n
value_writes (Chars text) = fed.str text

-- value by value
abbrev pub line_writes : Line → List (List ℕ)
line_writes line = flat_map value_writes line
