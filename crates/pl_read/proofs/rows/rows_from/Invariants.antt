use Rattle.std.proofs.Common.{◌≡◌, ◌+◌, [], length, vec_len}
use Rattle.std.specs.Vec.Iter.{into_iter_items, into_iter_len}
use Rattle.serde_json.specs.View.{items_view}
use Rattle.pl_read.specs.Paths.{path_of}
use Rattle.pl_read.specs.Values.{each}
use Rattle.pl_read.specs.Rows.{row_at}
use Rattle.pl_read.proofs.SoFar.{after}
use Rattle.pl_read.proofs.rows.rows_from.Given as goal

-- what was read, in front of what is left, is all
abbrev pub invariant-rows : goal.invariant-rows
invariant-rows l =
    (after l.rows.items (each (row_at l.kinds) (path_of l.place) l.at (items_view (into_iter_items l.left)))
    ≡ each (row_at l.kinds) (path_of l.place) 0 (items_view l.fn.values.items))
    × (l.at + length (into_iter_items l.left) ≡ length l.fn.values.items)

abbrev pub decreases-rows : goal.decreases-rows
decreases-rows l = length (into_iter_items l.left)
