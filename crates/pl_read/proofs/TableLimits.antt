-- The sizes of tables that are read.
use Rattle.std.proofs.Common.{◌≡◌, ℕ, suc, ◌+◌, ◌≤◌, ◌<◌, ◌==◌, List, [], ◌∷◌, ◌++◌, length, map, codes, Bool, true, false, not, ◌&&◌, nat_lt, eqb, cond, drop, drop-cons, add-one, Option, None, Ok, Err, refl, sym, ap, subst, ◌∙◌, arith}
use Rattle.std.specs.Prelude.{is_some}
use Rattle.std.specs.List.{AllByRecursion, list_any}
use Rattle.std.proofs.lemmas.Bool.{and_parts, ltb-true, eqb-true}
use Rattle.std.proofs.lemmas.List.{length-append, drop_all}
use Rattle.serde_json.specs.Data.{Data, null, boolean, number, string, array, object, Items, no_items, item}
use Rattle.serde_json.specs.Events.{items_len}
use Rattle.serde_json.specs.Find.{as_array, get}
use Rattle.ic_row.specs.declared.value.Kind.{Kind}
use Rattle.ic_row.specs.declared.value.Kind.TheVariants as kind
use Rattle.ic_row.specs.declared.value.Value.{Value}
use Rattle.ic_row.specs.declared.value.Value.TheVariants.{Null, Int, Chars}
use Rattle.pl_tree.specs.Columns as columns
use Rattle.pl_tree.specs.Sizes.{IsPlaced, IsTable, AreTables}
use Rattle.pl_tree.specs.declared.schema.Schema.{Schema}
use Rattle.pl_read.specs.declared.table.Table.{Table}
use Rattle.pl_read.specs.declared.fault.Flaw.TheVariants as flaw
use Rattle.pl_read.specs.Paths.{Step, member, index}
use Rattle.pl_read.specs.Faults.{fault_at, or_refused, ◌>>=◌}
use Rattle.pl_read.specs.Members.{object_at, only, needed}
use Rattle.pl_read.specs.Values.{position_at, array_at}
use Rattle.pl_read.specs.Exprs.{integer_in}
use Rattle.pl_read.specs.Rows.{datum_at, data_from, row_of, row_at, rows_from, rows_at}
use Rattle.pl_read.specs.Tables.{new_name_at, column_at, columns_from, kinds_at, key_column_at, key_from, key_at, key_in, replicated_in, placing, names_of, schema_at, table_at, tables_from, tables_at}
use Rattle.pl_read.specs.Limits.{HasWidths, IsOf, FitsColumns, HasKinds}
use Rattle.pl_read.proofs.Steps.{same_Ok, came, held, found, if_there, all_push, all_map, all_weaker, array_is, each_all}

-- ---- columns

columns_length : (names : List (List ℕ)) (kinds : List Kind) (path : List Step) (i : ℕ) (ds : Items) (ks : List Kind) → columns_from names kinds path i ds ≡ Ok ks → length ks ≡ length kinds + items_len ds
columns_length names kinds path i no_items ks e = let same = ap length (same_Ok kinds ks e) in omega (arith, same)
columns_length names kinds path i (item d ds) ks e =
    came (column_at names (index i ∷ path) d) (λ column. columns_from (names ++ column.0 ∷ []) (kinds ++ column.1 ∷ []) path (i + 1) ds) ks e (λ column _ e1.
    let n = columns_length (names ++ column.0 ∷ []) (kinds ++ column.1 ∷ []) path (i + 1) ds ks e1 in
    omega (arith, n, length-append kinds (column.1 ∷ [])))

kinds_length : (path : List Step) (d : Data) (ks : List Kind) → kinds_at path d ≡ Ok ks → length ks ≤ 256
kinds_length path d ks e =
    came (array_at 1 256 path d) (columns_from [] [] path 0) ks e (λ ds is e1.
    let n = (array_is 1 256 path d ds is).1 in
    omega (arith, n, columns_length [] [] path 0 ds ks e1))

-- ---- keys

column_is_below : (width : ℕ) (before : List ℕ) (path : List Step) (d : Data) (c : ℕ) → key_column_at width before path d ≡ Ok c → c < width
column_is_below width before path d c e =
    came (position_at path d) (λ x. cond (nat_lt x width && not (list_any (λ other. other == x) before)) (Ok x) (Err (fault_at path flaw.Range))) c e (λ x _ e1.
    let h = held (nat_lt x width && not (list_any (λ other. other == x) before)) x c (fault_at path flaw.Range) e1 in
    subst (λ y. y < width) h.1 (ltb-true x width (and_parts (nat_lt x width) (not (list_any (λ other. other == x) before)) h.0).0))

key_is_below : (width : ℕ) (before : List ℕ) (path : List Step) (i : ℕ) (ds : Items) (key : List ℕ) → AllByRecursion (λ c. c < width) before → key_from width before path i ds ≡ Ok key → AllByRecursion (λ c. c < width) key × (length key ≡ length before + items_len ds)
key_is_below width before path i no_items key all e =
    let same = same_Ok before key e in
    (subst (AllByRecursion (λ c. c < width)) same all, let n = ap length same in omega (arith, n))
key_is_below width before path i (item d ds) key all e =
    came (key_column_at width before (index i ∷ path) d) (λ c. key_from width (before ++ c ∷ []) path (i + 1) ds) key e (λ c is e1.
    let rest = key_is_below width (before ++ c ∷ []) path (i + 1) ds key (all_push (λ x. x < width) before c all (column_is_below width before (index i ∷ path) d c is)) e1 in
    let n = rest.1 in
    (rest.0, omega (arith, n, length-append before (c ∷ []))))

key_is_placed : (width : ℕ) (path : List Step) (d : Data) (key : List ℕ) → key_at width path d ≡ Ok key → (0 < length key) × AllByRecursion (λ c. c < width) key
key_is_placed width path d key e =
    came (array_at 1 8 path d) (key_from width [] path 0) key e (λ ds is e1.
    let n = (array_is 1 8 path d ds is).0 in
    let k = key_is_below width [] path 0 ds key tt e1 in
    let m = k.1 in
    (omega (arith, n, m), k.0))

rest_is_placed : (width : ℕ) (replicated : Bool) → IsPlaced width (placing None replicated)
rest_is_placed width true = tt
rest_is_placed width false = tt

is_placed : (width : ℕ) (path : List Step) (d : Data) (key : Option (List ℕ)) (replicated : Bool) → key_in width path d ≡ Ok key → IsPlaced width (placing key replicated)
is_placed width path d key replicated e =
    if_there (λ k. IsPlaced width (placing k replicated)) (key_at width (member (codes "key") ∷ path)) (get (codes "key") d) key e (rest_is_placed width replicated) (λ v columns is. key_is_placed width (member (codes "key") ∷ path) v columns is)

-- ---- rows

data_length : (kinds : List Kind) (path : List Step) (i : ℕ) (ds : Items) (row : List Value) → data_from kinds path i ds ≡ Ok row → length row ≡ items_len ds
data_length kinds path i no_items row e = ap length (sym (same_Ok [] row e))
data_length kinds path i (item d ds) row e =
    came (datum_at (columns.kind_at kinds i) (index i ∷ path) d) (λ value. data_from kinds path (i + 1) ds >>= λ values. Ok (value ∷ values)) row e (λ value _ e1.
    came (data_from kinds path (i + 1) ds) (λ values. Ok (value ∷ values)) row e1 (λ values are e2.
    ap length (sym (same_Ok (value ∷ values) row e2)) ∙ ap suc (data_length kinds path (i + 1) ds values are)))

wide : (kinds : List Kind) (path : List Step) (ds : Items) (b : Bool) (row : List Value) → eqb (items_len ds) (length kinds) ≡ b → cond b (data_from kinds path 0 ds) (Err (fault_at path flaw.Width)) ≡ Ok row → length row ≡ length kinds
wide kinds path ds true row is e = data_length kinds path 0 ds row e ∙ eqb-true (items_len ds) (length kinds) is
wide kinds path ds false row is e = absurd cc

row_is_wide : (kinds : List Kind) (path : List Step) (d : Data) (row : List Value) → row_at kinds path d ≡ Ok row → length row ≡ length kinds
row_is_wide kinds path d row e =
    came (or_refused (as_array d) path flaw.Kind) (row_of kinds path) row e (λ ds _ e1. wide kinds path ds (eqb (items_len ds) (length kinds)) row refl e1)

rows_are_wide : (kinds : List Kind) (path : List Step) (d : Data) (rows : List (List Value)) → rows_at kinds path d ≡ Ok rows → AllByRecursion (λ row. length row ≡ length kinds) rows
rows_are_wide kinds path d rows e =
    came (or_refused (as_array d) path flaw.Kind) (rows_from kinds path) rows e (λ ds _ e1. each_all (λ row. length row ≡ length kinds) (row_at kinds) (row_is_wide kinds) path 0 ds rows e1)

-- ---- values

datum_is_of : (k : Kind) (path : List Step) (d : Data) (v : Value) → datum_at k path d ≡ Ok v → IsOf k v
datum_is_of kind.Int path null v e = subst (IsOf kind.Int) (same_Ok Null v e) tt
datum_is_of kind.Int path (boolean b) v e = absurd cc
datum_is_of kind.Int path (number n) v e = came (integer_in path n) (λ z. Ok (Int z)) v e (λ z _ e1. subst (IsOf kind.Int) (same_Ok (Int z) v e1) tt)
datum_is_of kind.Int path (string text) v e = absurd cc
datum_is_of kind.Int path (array ds) v e = absurd cc
datum_is_of kind.Int path (object ms) v e = absurd cc
datum_is_of kind.Wide path null v e = subst (IsOf kind.Wide) (same_Ok Null v e) tt
datum_is_of kind.Wide path (boolean b) v e = absurd cc
datum_is_of kind.Wide path (number n) v e = absurd cc
datum_is_of kind.Wide path (string text) v e = absurd cc
datum_is_of kind.Wide path (array ds) v e = absurd cc
datum_is_of kind.Wide path (object ms) v e = absurd cc
datum_is_of kind.Chars path null v e = subst (IsOf kind.Chars) (same_Ok Null v e) tt
datum_is_of kind.Chars path (boolean b) v e = absurd cc
datum_is_of kind.Chars path (number n) v e = absurd cc
datum_is_of kind.Chars path (string text) v e = subst (IsOf kind.Chars) (same_Ok (Chars text) v e) tt
datum_is_of kind.Chars path (array ds) v e = absurd cc
datum_is_of kind.Chars path (object ms) v e = absurd cc

data_fit : (kinds : List Kind) (path : List Step) (i : ℕ) (ds : Items) (row : List Value) → data_from kinds path i ds ≡ Ok row → i + items_len ds ≡ length kinds → FitsColumns (drop i kinds) row
data_fit kinds path i no_items row e n =
    let end : drop i kinds ≡ [] = drop_all i kinds (omega (arith, n)) in
    subst (FitsColumns (drop i kinds)) (same_Ok [] row e) (subst (λ ks. FitsColumns ks []) (sym end) tt)
data_fit kinds path i (item d ds) row e n =
    came (datum_at (columns.kind_at kinds i) (index i ∷ path) d) (λ value. data_from kinds path (i + 1) ds >>= λ values. Ok (value ∷ values)) row e (λ value is e1.
    came (data_from kinds path (i + 1) ds) (λ values. Ok (value ∷ values)) row e1 (λ values are e2.
    let here = drop-cons kinds i kind.Int (omega (arith, n)) in
    let rest = subst (λ k. FitsColumns (drop k kinds) values) (add-one i) (data_fit kinds path (i + 1) ds values are (omega (arith, n))) in
    subst (FitsColumns (drop i kinds)) (same_Ok (value ∷ values) row e2) (subst (λ ks. FitsColumns ks (value ∷ values)) (sym here) (datum_is_of (columns.kind_at kinds i) (index i ∷ path) d value is, rest))))

fits : (kinds : List Kind) (path : List Step) (ds : Items) (b : Bool) (row : List Value) → eqb (items_len ds) (length kinds) ≡ b → cond b (data_from kinds path 0 ds) (Err (fault_at path flaw.Width)) ≡ Ok row → FitsColumns kinds row
fits kinds path ds true row is e = let n = eqb-true (items_len ds) (length kinds) is in data_fit kinds path 0 ds row e (omega (arith, n))
fits kinds path ds false row is e = absurd cc

row_fits : (kinds : List Kind) (path : List Step) (d : Data) (row : List Value) → row_at kinds path d ≡ Ok row → FitsColumns kinds row
row_fits kinds path d row e =
    came (or_refused (as_array d) path flaw.Kind) (row_of kinds path) row e (λ ds _ e1. fits kinds path ds (eqb (items_len ds) (length kinds)) row refl e1)

rows_fit : (kinds : List Kind) (path : List Step) (d : Data) (rows : List (List Value)) → rows_at kinds path d ≡ Ok rows → AllByRecursion (FitsColumns kinds) rows
rows_fit kinds path d rows e =
    came (or_refused (as_array d) path flaw.Kind) (rows_from kinds path) rows e (λ ds _ e1. each_all (FitsColumns kinds) (row_at kinds) (row_fits kinds) path 0 ds rows e1)

-- ---- tables

abbrev pub KeepsLimits : Table → Type 0
KeepsLimits table = IsTable table.schema × HasWidths table × HasKinds table

schema_keeps : (names : List (List ℕ)) (path : List Step) (d : Data) (schema : Schema) → schema_at names path d ≡ Ok schema → IsTable schema
schema_keeps names path d schema e =
    came (object_at path d) _ schema e (λ ms _ e1.
    came (only path (codes "name" ∷ codes "columns" ∷ codes "key" ∷ codes "replicated" ∷ codes "rows" ∷ []) ms) _ schema e1 (λ _ _ e2.
    came (needed (new_name_at names) path (codes "name") d) _ schema e2 (λ name _ e3.
    came (needed kinds_at path (codes "columns") d) _ schema e3 (λ kinds are e4.
    came (key_in (length kinds) path d) _ schema e4 (λ key keyed e5.
    came (replicated_in (is_some key) path d) _ schema e5 (λ replicated _ e6.
    let made : Schema = record { name = name; kinds = kinds; place = placing key replicated } in
    let columns = found kinds_at path (codes "columns") d kinds are (λ v e7. kinds_length (member (codes "columns") ∷ path) v kinds e7) in
    subst IsTable (same_Ok made schema e6) (record { columns = columns; place = is_placed (length kinds) path d key replicated keyed })))))))

table_keeps : (names : List (List ℕ)) (path : List Step) (d : Data) (table : Table) → table_at names path d ≡ Ok table → KeepsLimits table
table_keeps names path d table e =
    came (schema_at names path d) _ table e (λ schema is e1.
    came (needed (rows_at schema.kinds) path (codes "rows") d) _ table e1 (λ rows told e2.
    let made : Table = record { schema = schema; rows = rows } in
    let widths = found (rows_at schema.kinds) path (codes "rows") d rows told (λ v e3. rows_are_wide schema.kinds (member (codes "rows") ∷ path) v rows e3) in
    let values = found (rows_at schema.kinds) path (codes "rows") d rows told (λ v e3. rows_fit schema.kinds (member (codes "rows") ∷ path) v rows e3) in
    subst KeepsLimits (same_Ok made table e2) (schema_keeps names path d schema is, widths, values)))

tables_keep : (before : List Table) (path : List Step) (i : ℕ) (ds : Items) (tables : List Table) → AllByRecursion KeepsLimits before → tables_from before path i ds ≡ Ok tables → AllByRecursion KeepsLimits tables × (length tables ≡ length before + items_len ds)
tables_keep before path i no_items tables all e =
    let same = same_Ok before tables e in
    (subst (AllByRecursion KeepsLimits) same all, let n = ap length same in omega (arith, n))
tables_keep before path i (item d ds) tables all e =
    came (table_at (names_of before) (index i ∷ path) d) (λ table. tables_from (before ++ table ∷ []) path (i + 1) ds) tables e (λ table is e1.
    let rest = tables_keep (before ++ table ∷ []) path (i + 1) ds tables (all_push KeepsLimits before table all (table_keeps (names_of before) (index i ∷ path) d table is)) e1 in
    let n = rest.1 in
    (rest.0, omega (arith, n, length-append before (table ∷ []))))

pub tables_are_tables : (path : List Step) (d : Data) (tables : List Table) → tables_at path d ≡ Ok tables → AllByRecursion KeepsLimits tables × (length tables ≤ 64)
tables_are_tables path d tables e =
    came (array_at 0 64 path d) (tables_from [] path 0) tables e (λ ds is e1.
    let n = (array_is 0 64 path d ds is).1 in
    let k = tables_keep [] path 0 ds tables tt e1 in
    let m = k.1 in
    (k.0, omega (arith, n, m)))

pub schemas_are_tables : (tables : List Table) → AllByRecursion KeepsLimits tables → AreTables (map (λ table. table.schema) tables)
schemas_are_tables tables all = all_map IsTable (λ table. table.schema) tables (all_weaker KeepsLimits (λ table. IsTable table.schema) (λ table k. k.0) tables all)

pub rows_have_widths : (tables : List Table) → AllByRecursion KeepsLimits tables → AllByRecursion HasWidths tables
rows_have_widths tables all = all_weaker KeepsLimits HasWidths (λ table k. k.1) tables all

pub values_have_kinds : (tables : List Table) → AllByRecursion KeepsLimits tables → AllByRecursion HasKinds tables
values_have_kinds tables all = all_weaker KeepsLimits HasKinds (λ table k. k.2) tables all
