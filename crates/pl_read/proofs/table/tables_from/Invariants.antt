use Rattle.std.proofs.Common.{◌≡◌, ◌+◌, [], length, vec_len}
use Rattle.std.specs.Vec.Iter.{into_iter_items, into_iter_len}
use Rattle.serde_json.specs.View.{items_view}
use Rattle.pl_read.specs.Paths.{path_of}
use Rattle.pl_read.specs.Tables.{tables_from}
use Rattle.pl_read.proofs.table.tables_from.Given as goal

-- what is left, after what was read, is all
abbrev pub invariant-tables : goal.invariant-tables
invariant-tables l =
    (tables_from l.tables (path_of l.place) l.at (items_view (into_iter_items l.left)) ≡ tables_from [] (path_of l.place) 0 (items_view l.fn.values.items))
    × (l.at + length (into_iter_items l.left) ≡ length l.fn.values.items)

abbrev pub decreases-tables : goal.decreases-tables
decreases-tables l = length (into_iter_items l.left)
