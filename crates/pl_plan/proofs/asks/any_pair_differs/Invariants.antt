use Rattle.std.proofs.Common.{◌≡◌, drop}
use Rattle.std.specs.List.{list_any}
use Rattle.pl_plan.specs.Tests as spec
use Rattle.pl_plan.proofs.asks.any_pair_differs.Given as goal

abbrev pub invariant-loop-pair : goal.invariant-loop-pair
invariant-loop-pair l = list_any (spec.pair_differs l.left l.right) (drop l.pair-index l.pairs) ≡ list_any (spec.pair_differs l.left l.right) l.pairs
