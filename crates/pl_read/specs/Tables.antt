-- Tables: their names, columns and keys, and the placing of their rows.
use Rattle.std.specs.Prelude.{ℕ, ◌+◌, ◌==◌, List, [], ◌∷◌, ◌++◌, map, codes, length, Bool, true, false, not, ◌&&◌, nat_lt, if◌then◌else◌, Option, Some, None, is_some, unwrap_or, Result, Ok}
use Rattle.std.specs.List.{list_any}
use Rattle.std.specs.Str.{bytes_eq}
use Rattle.serde_json.specs.Data.{Data, Items, no_items, item}
use Rattle.serde_json.specs.Find.{as_bool}
use Rattle.ic_base.specs.Settings.{is_within}
use Rattle.ic_row.specs.declared.value.Kind.{Kind}
use Rattle.ic_row.specs.declared.value.Kind.TheVariants.{Int, Chars}
use Rattle.pl_tree.specs.declared.schema.Placing.{Placing}
use Rattle.pl_tree.specs.declared.schema.Schema.{Schema}
use Rattle.pl_tree.specs.declared.schema.Placing.TheVariants.{Keyed, Dealt, Everywhere}
use Rattle.pl_read.specs.declared.table.Table.{Table}
use Rattle.pl_read.specs.declared.fault.DocFault.{DocFault}
use Rattle.pl_read.specs.declared.fault.Flaw.TheVariants as flaw
use Rattle.pl_read.specs.Paths.{Step, index}
use Rattle.pl_read.specs.Faults.{refused, or_refused, ◌>>=◌}
use Rattle.pl_read.specs.Members.{is_among, object_at, only, needed, optional}
use Rattle.pl_read.specs.Values.{position_at, text_at, array_at, pair_at}
use Rattle.pl_read.specs.Rows.{rows_at}

-- ---- names

abbrev pub within_name : List Step → List ℕ → Result (List ℕ) DocFault
within_name path name = if is_within 1 (length name) 64 then Ok name else refused path flaw.Range

-- 1 to 64 bytes
abbrev pub name_at : List Step → Data → Result (List ℕ) DocFault
name_at path d = text_at path d >>= within_name path

-- a name that isn't among the others
abbrev pub new_name_at : List (List ℕ) → List Step → Data → Result (List ℕ) DocFault
new_name_at others path d = name_at path d >>= λ name. if is_among name others then refused path flaw.Repeated else Ok name

-- ---- columns: `[name, kind]`

abbrev pub kind_of : List ℕ → Option Kind
kind_of word = if bytes_eq word (codes "int") then Some Int else (if bytes_eq word (codes "text") then Some Chars else None)

abbrev pub kind_at : List Step → Data → Result Kind DocFault
kind_at path d = text_at path d >>= λ word. or_refused (kind_of word) path flaw.Kind

-- after columns of these names
abbrev pub column_at : List (List ℕ) → List Step → Data → Result (List ℕ × Kind) DocFault
column_at names path d =
    pair_at path d >>= λ pair.
    new_name_at names (index 0 ∷ path) pair.0 >>= λ name.
    kind_at (index 1 ∷ path) pair.1 >>= λ kind.
    Ok (name, kind)

-- the columns from number i on, after columns of these names and kinds
abbrev pub columns_from : List (List ℕ) → List Kind → List Step → ℕ → Items → Result (List Kind) DocFault
columns_from names kinds path i no_items = Ok kinds
columns_from names kinds path i (item d ds) =
    column_at names (index i ∷ path) d >>= λ column. columns_from (names ++ column.0 ∷ []) (kinds ++ column.1 ∷ []) path (i + 1) ds

abbrev pub kinds_at : List Step → Data → Result (List Kind) DocFault
kinds_at path d = array_at 1 256 path d >>= columns_from [] [] path 0

-- ---- keys

-- a column of the table, which isn't in the key already
abbrev pub key_column_at : ℕ → List ℕ → List Step → Data → Result ℕ DocFault
key_column_at width before path d =
    position_at path d >>= λ column.
    if nat_lt column width && not (list_any (λ other. other == column) before) then Ok column else refused path flaw.Range

-- the columns from number i on, after these
abbrev pub key_from : ℕ → List ℕ → List Step → ℕ → Items → Result (List ℕ) DocFault
key_from width before path i no_items = Ok before
key_from width before path i (item d ds) =
    key_column_at width before (index i ∷ path) d >>= λ column. key_from width (before ++ column ∷ []) path (i + 1) ds

abbrev pub key_at : ℕ → List Step → Data → Result (List ℕ) DocFault
key_at width path d = array_at 1 8 path d >>= key_from width [] path 0

abbrev pub key_in : ℕ → List Step → Data → Result (Option (List ℕ)) DocFault
key_in width path d = optional (key_at width) path (codes "key") d

-- ---- where the rows stand

-- rows with a key aren't everywhere
abbrev pub replicated_at : Bool → List Step → Data → Result Bool DocFault
replicated_at is_keyed path d =
    or_refused (as_bool d) path flaw.Kind >>= λ replicated. if replicated && is_keyed then refused path flaw.Range else Ok replicated

abbrev pub replicated_in : Bool → List Step → Data → Result Bool DocFault
replicated_in is_keyed path d = optional (replicated_at is_keyed) path (codes "replicated") d >>= λ replicated. Ok (unwrap_or replicated false)

abbrev pub placing : Option (List ℕ) → Bool → Placing
placing (Some columns) replicated = Keyed columns
placing None true = Everywhere
placing None false = Dealt

-- ---- tables

abbrev pub names_of : List Table → List (List ℕ)
names_of tables = map (λ table. table.schema.name) tables

-- all but the rows, after tables of these names
abbrev pub schema_at : List (List ℕ) → List Step → Data → Result Schema DocFault
schema_at names path d =
    object_at path d >>= λ ms.
    only path (codes "name" ∷ codes "columns" ∷ codes "key" ∷ codes "replicated" ∷ codes "rows" ∷ []) ms >>= λ _.
    needed (new_name_at names) path (codes "name") d >>= λ name.
    needed kinds_at path (codes "columns") d >>= λ kinds.
    key_in (length kinds) path d >>= λ key.
    replicated_in (is_some key) path d >>= λ replicated.
    Ok (record { name = name; kinds = kinds; place = placing key replicated })

abbrev pub table_at : List (List ℕ) → List Step → Data → Result Table DocFault
table_at names path d =
    schema_at names path d >>= λ schema.
    needed (rows_at schema.kinds) path (codes "rows") d >>= λ rows.
    Ok (record { schema = schema; rows = rows })

-- the tables from number i on, after these
abbrev pub tables_from : List Table → List Step → ℕ → Items → Result (List Table) DocFault
tables_from before path i no_items = Ok before
tables_from before path i (item d ds) =
    table_at (names_of before) (index i ∷ path) d >>= λ table. tables_from (before ++ table ∷ []) path (i + 1) ds

abbrev pub tables_at : List Step → Data → Result (List Table) DocFault
tables_at path d = array_at 0 64 path d >>= tables_from [] path 0
