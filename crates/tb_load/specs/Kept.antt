-- A document's tables as they are kept.
use Rattle.std.specs.Prelude.{ℕ, List, map}
use Rattle.std.specs.List.{range_with_len}
use Rattle.pl_tree.specs.declared.schema.Schema.{Schema}
use Rattle.pl_tree.specs.declared.schema.Placing.{Placing}
use Rattle.pl_tree.specs.declared.schema.Placing.TheVariants.{Keyed, Dealt, Everywhere}
use Rattle.pl_read.specs.declared.table.Table.{Table}
use Rattle.pl_read.specs.declared.document.Document.{Document}
use Rattle.pl_ops.specs.declared.loaded.Spread.{Spread}
use Rattle.pl_ops.specs.declared.loaded.Spread.TheVariants as spread
use Rattle.pl_ops.specs.Rows.{Line}
use Rattle.pl_ops.specs.Fitting.{placed_at}

-- the rows at each of so many segments
unfoldable pub parts_of : Placing → ℕ → List Line → List (List Line)
parts_of place segments rows = map (λ segment. placed_at place segments segment rows) (range_with_len 0 segments)

-- once for all segments, or a part for each
abbrev pub kept_by : Placing → ℕ → List Line → Spread
kept_by (Keyed columns) segments rows = spread.Apart (parts_of (Keyed columns) segments rows)
kept_by Dealt segments rows = spread.Apart (parts_of Dealt segments rows)
kept_by Everywhere segments rows = spread.Everywhere rows

abbrev pub spread_of : ℕ → Table → Spread
spread_of segments table = kept_by table.schema.place segments table.rows

-- all tables, in their order
abbrev pub loaded_of : Document → List Spread
loaded_of document = map (spread_of document.segments) document.tables

-- the tables as plans see them
abbrev pub schemas_of : Document → List Schema
schemas_of document = map (λ table. table.schema) document.tables

-- the rows of each table
abbrev pub wholes_of : Document → List (List Line)
wholes_of document = map (λ table. table.rows) document.tables
