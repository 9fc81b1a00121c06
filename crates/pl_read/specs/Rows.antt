-- The rows of a table.
use Rattle.std.specs.Prelude.{ℕ, ◌+◌, ◌==◌, List, [], ◌∷◌, length, if◌then◌else◌, Result, Ok}
use Rattle.serde_json.specs.Data.{Data, null, number, string, Items, no_items, item}
use Rattle.serde_json.specs.Events.{items_len}
use Rattle.serde_json.specs.Find.{as_array}
use Rattle.ic_row.specs.declared.value.Kind.{Kind}
use Rattle.ic_row.specs.declared.value.Kind.TheVariants as kind
use Rattle.ic_row.specs.declared.value.Value.{Value}
use Rattle.ic_row.specs.declared.value.Value.TheVariants.{Null, Int, Chars}
use Rattle.pl_tree.specs.Columns.{kind_at}
use Rattle.pl_read.specs.declared.fault.DocFault.{DocFault}
use Rattle.pl_read.specs.declared.fault.Flaw.TheVariants as flaw
use Rattle.pl_read.specs.Paths.{Step, index}
use Rattle.pl_read.specs.Faults.{refused, or_refused, ◌>>=◌}
use Rattle.pl_read.specs.Values.{each}
use Rattle.pl_read.specs.Exprs.{integer_in}

-- null, or what the column holds; no column of a document holds wides
abbrev pub datum_at : Kind → List Step → Data → Result Value DocFault
datum_at k path null = Ok Null
datum_at kind.Int path (number n) = integer_in path n >>= λ z. Ok (Int z)
datum_at kind.Chars path (string text) = Ok (Chars text)
datum_at k path d = refused path flaw.Kind

-- the values from column i on
abbrev pub data_from : List Kind → List Step → ℕ → Items → Result (List Value) DocFault
data_from kinds path i no_items = Ok []
data_from kinds path i (item d ds) =
    datum_at (kind_at kinds i) (index i ∷ path) d >>= λ value. data_from kinds path (i + 1) ds >>= λ values. Ok (value ∷ values)

abbrev pub row_of : List Kind → List Step → Items → Result (List Value) DocFault
row_of kinds path ds = if items_len ds == length kinds then data_from kinds path 0 ds else refused path flaw.Width

-- as wide as there are columns
abbrev pub row_at : List Kind → List Step → Data → Result (List Value) DocFault
row_at kinds path d = or_refused (as_array d) path flaw.Kind >>= row_of kinds path

abbrev pub rows_from : List Kind → List Step → Items → Result (List (List Value)) DocFault
rows_from kinds path ds = each (row_at kinds) path 0 ds

abbrev pub rows_at : List Kind → List Step → Data → Result (List (List Value)) DocFault
rows_at kinds path d = or_refused (as_array d) path flaw.Kind >>= rows_from kinds path
