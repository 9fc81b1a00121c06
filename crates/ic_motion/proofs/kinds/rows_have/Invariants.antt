use Rattle.std.proofs.Common.{◌≡◌, drop}
use Rattle.std.specs.List.{list_all}
use Rattle.ic_motion.specs.Feeding.{has_kinds}
use Rattle.ic_motion.proofs.kinds.rows_have.Given as goal

abbrev pub invariant-loop-row : goal.invariant-loop-row
invariant-loop-row l = list_all (has_kinds l.kinds) (drop l.row-index l.rows) ≡ list_all (has_kinds l.kinds) l.rows
