use Rattle.std.proofs.Common.{◌≡◌, map, take}
use Rattle.pl_tree.specs.Columns as spec
use Rattle.pl_tree.proofs.columns.chosen_kinds.Given as goal

abbrev pub invariant-loop-column : goal.invariant-loop-column
invariant-loop-column l = l.chosen ≡ map (spec.kind_at l.kinds) (take l.column-index l.columns)
