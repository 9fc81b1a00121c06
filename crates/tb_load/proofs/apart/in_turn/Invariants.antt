use Rattle.std.proofs.Common.{◌≡◌, List, ◌++◌, length}
use Rattle.std.specs.Vec.Iter.{into_iter_items}
use Rattle.pl_tree.specs.declared.schema.Placing.TheVariants.{Dealt}
use Rattle.pl_ops.specs.Rows.{Line}
use Rattle.tb_load.specs.Kept.{parts_of}
use Rattle.tb_load.proofs.apart.in_turn.Given as goal

-- those that were put stand in front of those that are left
abbrev pub invariant-rows : goal.invariant-rows
invariant-rows l =
    (done : List Line) × (done ++ into_iter_items l.left ≡ l.fn.rows) × (length done ≡ l.number) × (l.parts.items ≡ parts_of Dealt l.segments done)

abbrev pub decreases-rows : goal.decreases-rows
decreases-rows l = length (into_iter_items l.left)
