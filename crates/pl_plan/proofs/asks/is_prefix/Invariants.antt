use Rattle.std.proofs.Common.{◌≡◌, drop}
use Rattle.pl_plan.specs.Tests as spec
use Rattle.pl_plan.proofs.asks.is_prefix.Given as goal

abbrev pub invariant-loop-i : goal.invariant-loop-i
invariant-loop-i l = spec.is_prefix (drop l.i l.front) (drop l.i l.keys) ≡ spec.is_prefix l.front l.keys
