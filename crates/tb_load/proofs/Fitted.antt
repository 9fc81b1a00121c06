-- A loaded document fits the plans that are judged with its tables.
use Rattle.std.proofs.Common.{◌≡◌, ℕ, List, [], ◌∷◌, Some, refl, sym, ap, ◌∙◌, subst}
use Rattle.std.specs.List.{AllByRecursion, AllZip, slice_get}
use Rattle.std.proofs.lemmas.List.{length-map}
use Rattle.ic_row.specs.declared.value.Kind.{Kind}
use Rattle.ic_row.specs.declared.value.Kind.TheVariants as kind
use Rattle.ic_row.specs.declared.value.Value.{Value}
use Rattle.ic_row.specs.declared.value.Value.TheVariants.{Null, Int, Wide, Chars}
use Rattle.ic_row.specs.Spelling.{FitsLength}
use Rattle.pl_tree.specs.declared.schema.Schema.{Schema}
use Rattle.pl_read.specs.declared.table.Table.{Table}
use Rattle.pl_read.specs.declared.document.Document.{Document}
use Rattle.pl_read.specs.Limits.{IsOf, FitsColumns, HasKinds, IsDocument, HasShortTexts}
use Rattle.pl_ops.specs.Rows.{Line}
use Rattle.pl_ops.specs.Placed.{or_none}
use Rattle.pl_ops.specs.Fitting.{stands_at, IsOfKind, IsRowOf, HasTable, Fits}
use Rattle.tb_load.specs.Kept.{spread_of, loaded_of, schemas_of, wholes_of}
use Rattle.tb_load.specs.Laws.{FittingRows}
use Rattle.tb_load.proofs.Choosing.{chosen-all}
use Rattle.tb_load.proofs.Looking.{came_from, get_map, all_get, all_both}
use Rattle.tb_load.proofs.Loaded.{where_placed}

-- ---- the rows of what fits

pub fitting_rows : FittingRows
fitting_rows n schemas wholes tables t schema s fits is lt =
    let table = fits.each t schema is in
    subst (AllByRecursion (IsRowOf schema.kinds)) (sym (table.places s lt)) (chosen-all (IsRowOf schema.kinds) (stands_at schema.place n s) 0 (or_none (slice_get wholes t)) table.kinds)

-- ---- kinds

of_kind : (k : Kind) (value : Value) → IsOf k value → IsOfKind k value
of_kind k Null is = tt
of_kind kind.Int (Int n) is = refl
of_kind kind.Wide (Int n) is = absurd is
of_kind kind.Chars (Int n) is = absurd is
of_kind k (Wide n) is = absurd is
of_kind kind.Int (Chars text) is = absurd is
of_kind kind.Wide (Chars text) is = absurd is
of_kind kind.Chars (Chars text) is = refl

of_kinds : (kinds : List Kind) (row : Line) → FitsColumns kinds row → AllZip IsOfKind kinds row
of_kinds [] [] fits = tt
of_kinds [] (v ∷ row) fits = absurd fits
of_kinds (k ∷ kinds) [] fits = absurd fits
of_kinds (k ∷ kinds) (v ∷ row) fits = (of_kind k v fits.0, of_kinds kinds row fits.1)

is_row : (kinds : List Kind) (row : Line) → FitsColumns kinds row → AllByRecursion FitsLength row → IsRowOf kinds row
is_row kinds row fits short = record { values = of_kinds kinds row fits; texts = short }

-- ---- the document

has_table : (d : Document) → IsDocument d → HasShortTexts d → (t : ℕ) (table : Table) → slice_get d.tables t ≡ Some table → HasTable d.segments table.schema (loaded_of d) t table.rows
has_table d is short t table at = record {
  kinds =
      all_both (FitsColumns table.schema.kinds) (AllByRecursion FitsLength) (IsRowOf table.schema.kinds) (is_row table.schema.kinds) table.rows
      (all_get HasKinds d.tables t table is.values at)
      (all_get (λ x. AllByRecursion (AllByRecursion FitsLength) x.rows) d.tables t table short at);
  places = where_placed d t table at;
}

rows_there : (d : Document) (t : ℕ) (table : Table) → slice_get d.tables t ≡ Some table → table.rows ≡ or_none (slice_get (wholes_of d) t)
rows_there d t table at = sym (ap or_none (get_map (λ (x : Table). x.rows) d.tables t table at))

has_schema : (d : Document) → IsDocument d → HasShortTexts d → (t : ℕ) (schema : Schema) → slice_get (schemas_of d) t ≡ Some schema → HasTable d.segments schema (loaded_of d) t (or_none (slice_get (wholes_of d) t))
has_schema d is short t schema at =
    let from = came_from (λ (table : Table). table.schema) d.tables t schema at in
    let whole = subst (HasTable d.segments from.0.schema (loaded_of d) t) (rows_there d t from.0 from.1) (has_table d is short t from.0 from.1) in
    subst (λ s. HasTable d.segments s (loaded_of d) t (or_none (slice_get (wholes_of d) t))) from.2 whole

pub fits : (d : Document) → IsDocument d → HasShortTexts d → Fits d.segments (schemas_of d) (wholes_of d) (loaded_of d)
fits d is short = record {
  count = length-map d.tables (spread_of d.segments) ∙ sym (length-map d.tables (λ table. table.schema));
  each = has_schema d is short;
}
