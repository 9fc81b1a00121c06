-- Where the rows of a document stand.
use Rattle.std.specs.Prelude.{◌≡◌, ℕ, ◌<◌, ◌≤◌, pos, negsuc, List, [], slice_get, Some, ⊤, IsPermutation}
use Rattle.std.specs.List.{AllByRecursion, range_with_len, flat_map}
use Rattle.ic_row.specs.Hash.{segment_for}
use Rattle.pl_tree.specs.declared.schema.Placing.{Placing}
use Rattle.pl_tree.specs.declared.schema.Placing.TheVariants.{Keyed, Dealt, Everywhere}
use Rattle.pl_read.specs.declared.table.Table.{Table}
use Rattle.pl_read.specs.declared.document.Document.{Document}
use Rattle.pl_ops.specs.declared.loaded.Spread.{Spread}
use Rattle.pl_ops.specs.Rows.{Line}
use Rattle.pl_ops.specs.Placed.{rows_at}
use Rattle.pl_ops.specs.Fitting.{placed_at}

-- of the document's table with this number, from 0
abbrev pub OfEachTable : Document → (ℕ → Table → Type 0) → Type 0
OfEachTable document P = (number : ℕ) (table : Table) → slice_get document.tables number ≡ Some table → P number table

-- at each segment of the document
abbrev pub AtEachSegment : Document → (ℕ → Type 0) → Type 0
AtEachSegment document P = (segment : ℕ) → segment < document.segments → P segment

-- at each segment stand the rows that are placed there, in the document's order
abbrev pub StandWherePlaced : Document → List Spread → Type 0
StandWherePlaced document tables =
    OfEachTable document (λ number table. AtEachSegment document (λ segment.
    rows_at tables number (pos segment) ≡ placed_at table.schema.place document.segments segment table.rows))

-- ---- each once

-- a placing at one segment each
abbrev pub IsApart : Placing → Type 0
IsApart (Keyed columns) = ⊤
IsApart Dealt = ⊤
IsApart Everywhere = ⊥

-- the rows of a table at so many segments, one segment after another
abbrev pub over_all : ℕ → List Spread → ℕ → List Line
over_all segments tables number = flat_map (λ segment. rows_at tables number (pos segment)) (range_with_len 0 segments)

-- each at one segment, or all at each
abbrev pub IsWhole : Placing → Document → List Spread → ℕ → List Line → Type 0
IsWhole (Keyed columns) document tables number rows = 0 < document.segments → IsPermutation rows (over_all document.segments tables number)
IsWhole Dealt document tables number rows = 0 < document.segments → IsPermutation rows (over_all document.segments tables number)
IsWhole Everywhere document tables number rows = AtEachSegment document (λ segment. rows_at tables number (pos segment) ≡ rows)

abbrev pub StandOnce : Document → List Spread → Type 0
StandOnce document tables = OfEachTable document (λ number table. IsWhole table.schema.place document tables number table.rows)

-- ---- by key

abbrev pub IsByKey : Placing → Document → List Spread → ℕ → Type 0
IsByKey (Keyed columns) document tables number =
    AtEachSegment document (λ segment. AllByRecursion (λ row. segment_for columns row document.segments ≡ segment) (rows_at tables number (pos segment)))
IsByKey Dealt document tables number = ⊤
IsByKey Everywhere document tables number = ⊤

-- a row of a table with a key stands at the segment that its key names
abbrev pub StandByKey : Document → List Spread → Type 0
StandByKey document tables = OfEachTable document (λ number table. IsByKey table.schema.place document tables number)

-- ---- nowhere else

-- none past the last segment, of a table that isn't replicated
abbrev pub IsNotPast : Placing → Document → List Spread → ℕ → Type 0
IsNotPast (Keyed columns) document tables number = (segment : ℕ) → document.segments ≤ segment → rows_at tables number (pos segment) ≡ []
IsNotPast Dealt document tables number = (segment : ℕ) → document.segments ≤ segment → rows_at tables number (pos segment) ≡ []
IsNotPast Everywhere document tables number = ⊤

-- none at the dispatcher
abbrev pub IsNotAbove : List Spread → ℕ → Type 0
IsNotAbove tables number = rows_at tables number (negsuc 0) ≡ []

abbrev pub StandNowhereElse : Document → List Spread → Type 0
StandNowhereElse document tables = OfEachTable document (λ number table. IsNotPast table.schema.place document tables number × IsNotAbove tables number)
