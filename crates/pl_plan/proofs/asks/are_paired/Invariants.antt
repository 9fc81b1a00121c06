use Rattle.std.proofs.Common.{◌≡◌, drop}
use Rattle.pl_plan.specs.Tests as spec
use Rattle.pl_plan.proofs.asks.are_paired.Given as goal

abbrev pub invariant-loop-i : goal.invariant-loop-i
invariant-loop-i l = spec.are_paired l.pairs (drop l.i l.left) (drop l.i l.right) ≡ spec.are_paired l.pairs l.left l.right
