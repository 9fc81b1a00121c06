use Rattle.std.proofs.Common.{◌≡◌, drop}
use Rattle.ic_row.specs.Order.{compare_by}
use Rattle.ic_row.proofs.order.compare.Given as goal

abbrev pub invariant-loop-key : goal.invariant-loop-key
invariant-loop-key l = compare_by l.keys l.a l.b ≡ compare_by (drop l.key-index l.keys) l.a l.b
