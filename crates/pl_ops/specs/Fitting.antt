-- Which rows of a table stand at a segment, and what it is that loaded rows fit the tables of a plan.
use Rattle.std.specs.Prelude.{◌≡◌, ℕ, ◌<◌, ◌%◌, ◌==◌, pos, Bool, true, List, length, map, filter, slice_get, Some, IfSome}
use Rattle.std.specs.List.{AllByRecursion, AllZip, enumerate_from}
use Rattle.ic_row.specs.declared.value.Kind.{Kind}
use Rattle.ic_row.specs.declared.value.Value.{Value}
use Rattle.ic_row.specs.Values.{kind_of}
use Rattle.ic_row.specs.Hash.{segment_for}
use Rattle.ic_row.specs.Spelling.{FitsLength}
use Rattle.pl_tree.specs.declared.schema.Schema.{Schema}
use Rattle.pl_tree.specs.declared.schema.Placing.{Placing}
use Rattle.pl_tree.specs.declared.schema.Placing.TheVariants.{Keyed, Dealt, Everywhere}
use Rattle.pl_ops.specs.declared.loaded.Spread.{Spread}
use Rattle.pl_ops.specs.Rows.{Line}
use Rattle.pl_ops.specs.Placed.{or_none, rows_at}

-- ---- places

-- each row with its number in the table, from 0
abbrev pub numbered : List Line → List (ℕ × Line)
numbered rows = enumerate_from 0 rows

-- whether a row with its number stands at this segment, of so many: where its key says, or its number, or at each
abbrev pub stands_at : Placing → ℕ → ℕ → ℕ × Line → Bool
stands_at (Keyed columns) segments segment row = segment_for columns row.1 segments == segment
stands_at Dealt segments segment row = row.0 % segments == segment
stands_at Everywhere segments segment row = true

-- the rows of a table that stand at a segment, in the order of the table
abbrev pub placed_at : Placing → ℕ → ℕ → List Line → List Line
placed_at place segments segment rows = map (λ row. row.1) (filter (stands_at place segments segment) (numbered rows))

-- ---- kinds

-- of this kind, or null, which has none
abbrev pub IsOfKind : Kind → Value → Type 0
IsOfKind k value = IfSome (kind_of value) (λ j. j ≡ k)

-- a value of its kind for each column, and no text too long to be spelled
pub record IsRowOf (kinds : List Kind) (row : Line) : Type 0 where
  pub values : AllZip IsOfKind kinds row
  pub texts : AllByRecursion FitsLength row

-- ---- tables

-- of a table with these rows: they are of its kinds, and at each segment stand those that its placing puts there
pub record HasTable (segments : ℕ) (schema : Schema) (tables : List Spread) (table : ℕ) (rows : List Line) : Type 0 where
  pub kinds : AllByRecursion (IsRowOf schema.kinds) rows
  pub places : (segment : ℕ) → segment < segments → rows_at tables table (pos segment) ≡ placed_at schema.place segments segment rows

-- the tables of these schemas, whose rows are these lists, and no others, over so many segments
pub record Fits (segments : ℕ) (schemas : List Schema) (wholes : List (List Line)) (tables : List Spread) : Type 0 where
  pub count : length tables ≡ length schemas
  pub each : (table : ℕ) (schema : Schema) → slice_get schemas table ≡ Some schema → HasTable segments schema tables table (or_none (slice_get wholes table))
