use Rattle.std.proofs.Common.{◌≡◌, drop}
use Rattle.std.specs.Prelude.{◌==◌}
use Rattle.std.specs.List.{list_any}
use Rattle.pl_plan.specs.Tests as spec
use Rattle.pl_plan.proofs.asks.is_in.Given as goal

abbrev pub invariant-loop-other : goal.invariant-loop-other
invariant-loop-other l = list_any (λ d. d == l.column) (drop l.other-index l.columns) ≡ list_any (λ d. d == l.column) l.columns
