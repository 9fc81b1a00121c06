-- Small plans over two segments, whose parts are their meanings by a rule. Each rule has a definition of its own, so that a wrong
-- rule is refused by a value.
use Rattle.std.specs.Prelude.{ℕ, ℤ, pos, negsuc, List, [], ◌∷◌, ◌++◌, flat_map, None, IsPermutation}
use Rattle.ic_row.specs.declared.value.Kind.TheVariants as kind
use Rattle.pl_tree.specs.declared.node.Pair.{Pair}
use Rattle.pl_tree.specs.declared.node.Call.TheVariants.{Count}
use Rattle.pl_tree.specs.declared.schema.Placing.TheVariants as placing
use Rattle.pl_tree.specs.declared.schema.Locus.TheVariants.{Replicated}
use Rattle.pl_tree.specs.Trees.{Tree, Scan, Join, Partial, Final, Gather, Redistribute, Broadcast}
use Rattle.pl_plan.specs.Motions.{gang_at}
use Rattle.pl_ops.specs.declared.loaded.Spread.TheVariants as spread
use Rattle.pl_ops.specs.Rows.{Line, join_rows}
use Rattle.pl_ops.specs.Groups.{final_rows}
use Rattle.pl_mean.specs.Parts.{Site, scanned, part}
use Rattle.pl_mean.specs.Logical.{logical, meaning}
use Rattle.pl_mean.specs.Worked.{one, l, r, schemas, l_rows, wholes, site}

-- ---- a final over partials

-- the rows of l are counted by their first columns, at each segment and then together
abbrev pub counting : Tree
counting = Final (Gather None (Partial (0 ∷ []) (Count ∷ []) (Scan l)))

-- what both segments counted
abbrev pub counted : List Line
counted = part site (Partial (0 ∷ []) (Count ∷ []) (Scan l)) (pos 0) ++ part site (Partial (0 ∷ []) (Count ∷ []) (Scan l)) (pos 1)

-- the rule: the groups of all partials, and of each the sum of its counts
abbrev pub joined_groups : List Line → List Line
joined_groups partials = final_rows (0 ∷ []) (Count ∷ []) partials

abbrev pub GroupsAreWhole : Type 0
GroupsAreWhole = IsPermutation (joined_groups counted) (meaning schemas wholes (logical counting))

-- ---- a broadcast

abbrev pub on_first : List Pair
on_first = record { left = 0; right = 0 } ∷ []

-- l is broadcast, and each row of r is joined to its rows of l
abbrev pub looking : Tree
looking = Gather None (Join on_first (Scan r) (Broadcast (Scan l)))

-- the rule: each segment gets all rows
abbrev pub heard_at : List Line → ℕ → List Line
heard_at rows segment = rows

abbrev pub BroadcastsReachAll : Type 0
BroadcastsReachAll = IsPermutation (flat_map (λ segment. join_rows on_first (heard_at l_rows segment) (scanned site r (pos segment))) (0 ∷ 1 ∷ [])) (meaning schemas wholes (logical looking))

-- ---- a replicated table

abbrev pub c : List ℕ
c = 99 ∷ []

abbrev pub c_rows : List Line
c_rows = one 7 ∷ one 8 ∷ []

-- a third table, with its rows at each segment
abbrev pub copies : Site
copies = record {
  schemas = record { name = c; kinds = kind.Int ∷ []; place = placing.Everywhere } ∷ [];
  tables = spread.Everywhere c_rows ∷ [];
  segments = 2;
}

-- the rule: of rows that are everywhere one segment sends its own
abbrev pub senders : List ℤ
senders = gang_at 2 Replicated

abbrev pub CopiesAreSentOnce : Type 0
CopiesAreSentOnce = IsPermutation (flat_map (scanned copies c) senders) (meaning copies.schemas (c_rows ∷ []) (logical (Gather None (Scan c))))

-- ---- a redistribute

-- the rule: rows go by the columns by which they are joined
abbrev pub moved_by : List ℕ
moved_by = 0 ∷ []

-- l goes to the segments where its rows of r are
abbrev pub meeting : Tree
meeting = Gather None (Join on_first (Redistribute moved_by (Scan l)) (Scan r))

abbrev pub RowsMeet : Type 0
RowsMeet = IsPermutation (part site meeting (negsuc 0)) (meaning schemas wholes (logical meeting))
