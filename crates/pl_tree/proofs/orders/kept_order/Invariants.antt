use Rattle.std.proofs.Common.{◌≡◌, ◌++◌, drop}
use Rattle.pl_tree.specs.Orders as spec
use Rattle.pl_tree.proofs.orders.kept_order.Given as goal

abbrev pub invariant-loop-key : goal.invariant-loop-key
invariant-loop-key l = l.kept ++ spec.kept_order l.columns (drop l.key-index l.keys) ≡ spec.kept_order l.columns l.keys
