-- What follows of rows that stand at segments.
use Rattle.std.specs.Prelude.{◌≡◌, ℕ, ◌<◌, pos, List, slice_get, Some, IsPermutation}
use Rattle.std.specs.List.{AllByRecursion, range_with_len, flat_map}
use Rattle.pl_tree.specs.declared.schema.Schema.{Schema}
use Rattle.pl_tree.specs.declared.schema.Placing.{Placing}
use Rattle.pl_ops.specs.declared.loaded.Spread.{Spread}
use Rattle.pl_ops.specs.Rows.{Line}
use Rattle.pl_ops.specs.Placed.{rows_at}
use Rattle.pl_ops.specs.Fitting.{placed_at, IsRowOf, Fits}
use Rattle.tb_load.specs.Standing.{IsApart}

-- the rows at each segment have their columns' kinds
abbrev pub FittingRows : Type 0
FittingRows =
    (segments : ℕ) (schemas : List Schema) (wholes : List (List Line)) (tables : List Spread) (table : ℕ) (schema : Schema) (segment : ℕ)
    → Fits segments schemas wholes tables → slice_get schemas table ≡ Some schema → segment < segments
    → AllByRecursion (IsRowOf schema.kinds) (rows_at tables table (pos segment))

-- the rows at all segments, one segment after another, are the rows in some order
abbrev pub PlacedOnce : Type 0
PlacedOnce =
    (place : Placing) (segments : ℕ) (rows : List Line) → IsApart place → 0 < segments
    → IsPermutation rows (flat_map (λ segment. placed_at place segments segment rows) (range_with_len 0 segments))
