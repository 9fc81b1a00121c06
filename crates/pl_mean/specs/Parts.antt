-- What each node gives at each segment once all its input was read, limits left out.
use Rattle.std.specs.Prelude.{ℕ, ◌+◌, ℤ, pos, negsuc, if◌then◌else◌, List, [], ◌∷◌, flat_map, Option, Some, None}
use Rattle.pl_tree.specs.declared.schema.Schema.{Schema}
use Rattle.pl_tree.specs.declared.schema.Locus.{Locus}
use Rattle.pl_tree.specs.declared.schema.Locus.TheVariants.{Entry, Hashed, Replicated, Strewn}
use Rattle.pl_tree.specs.Trees.{Tree, Scan, Filter, Project, Limit, Sort, Join, Single, Partial, Final, Gather, Redistribute, Broadcast}
use Rattle.pl_tree.specs.Columns.{same_text}
use Rattle.pl_tree.specs.Loci.{locus_of}
use Rattle.pl_tree.specs.Partials.{Groups, partial_under}
use Rattle.pl_plan.specs.Motions.{gang_at}
use Rattle.pl_ops.specs.declared.loaded.Spread.{Spread}
use Rattle.pl_ops.specs.Rows.{Line, filter_rows, project_rows, join_rows}
use Rattle.pl_ops.specs.Groups.{aggregate_rows, final_rows}
use Rattle.pl_ops.specs.Placed.{rows_at}
use Rattle.pl_ops.specs.Routing.{Route, ToAll, ToHashed, routed}

-- ---- tables

-- the tables of a document, with their rows at each of so many segments
pub record Site : Type 0 where
  pub schemas : List Schema
  pub tables : List Spread
  pub segments : ℕ

-- the number of the table of this name, counted on from the first number
abbrev pub number_from : ℕ → List ℕ → List Schema → Option ℕ
number_from n name [] = None
number_from n name (schema ∷ schemas) = if same_text schema.name name then Some n else number_from (n + 1) name schemas

abbrev pub rows_of : List Spread → Option ℕ → ℤ → List Line
rows_of tables None at = []
rows_of tables (Some n) at = rows_at tables n at

-- the rows of the table of this name at a segment
abbrev pub scanned : Site → List ℕ → ℤ → List Line
scanned site name at = rows_of site.tables (number_from 0 name site.schemas) at

-- ---- parts

-- the rows of a node at the dispatcher, which has a number below 0, and at each segment
abbrev pub Parts : Type 0
Parts = ℤ → List Line

abbrev pub at_dispatcher : List Line → Parts
at_dispatcher rows (negsuc n) = rows
at_dispatcher rows (pos segment) = []

abbrev pub at_segments : (ℕ → List Line) → Parts
at_segments rows (negsuc n) = []
at_segments rows (pos segment) = rows segment

-- an aggregate gives a row over no rows too, so it gives rows where its node is and nowhere else
abbrev pub at_own : Locus → (List Line → List Line) → Parts → Parts
at_own Entry f parts at = at_dispatcher (f (parts at)) at
at_own (Hashed a) f parts at = at_segments (λ segment. f (parts at)) at
at_own Replicated f parts at = at_segments (λ segment. f (parts at)) at
at_own Strewn f parts at = at_segments (λ segment. f (parts at)) at

-- a final over no partial, which no sound plan has, gives nothing
abbrev pub final_of : Option Groups → List Line → List Line
final_of None rows = []
final_of (Some g) rows = final_rows g.group g.calls rows

-- The rows among these that a motion sends to a receiver. A row is hashed over all segments, whichever of them send or
-- receive; the dispatcher gets no row that is hashed.
abbrev pub routed_to : Site → Route → ℤ → List Line → List Line
routed_to site ToAll at rows = rows
routed_to site (ToHashed keys) (pos segment) rows = routed (ToHashed keys) site.segments segment rows
routed_to site (ToHashed keys) (negsuc n) rows = []

-- what the senders of a motion have together
unfoldable pub sent_by : Site → Locus → Parts → List Line
sent_by site locus parts = flat_map parts (gang_at site.segments locus)

-- of a motion every sender's part is taken, and routed
abbrev pub part : Site → Tree → Parts
part s (Scan t) at = scanned s t at
part s (Filter e c) at = filter_rows e (part s c at)
part s (Project cols c) at = project_rows cols (part s c at)
part s (Limit n c) at = part s c at
part s (Sort ks c) at = part s c at
part s (Join on l r) at = join_rows on (part s r at) (part s l at)
part s (Single g cs c) at = at_own (locus_of s.schemas c) (aggregate_rows g cs) (part s c) at
part s (Partial g cs c) at = at_own (locus_of s.schemas c) (aggregate_rows g cs) (part s c) at
part s (Final c) at = at_own (locus_of s.schemas c) (final_of (partial_under c)) (part s c) at
part s (Gather o c) at = at_dispatcher (sent_by s (locus_of s.schemas c) (part s c)) at
part s (Redistribute ks c) at = at_segments (λ b. routed_to s (ToHashed ks) (pos b) (sent_by s (locus_of s.schemas c) (part s c))) at
part s (Broadcast c) at = at_segments (λ b. sent_by s (locus_of s.schemas c) (part s c)) at
