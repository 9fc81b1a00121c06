use Rattle.std.proofs.Common.{◌≡◌, drop}
use Rattle.std.specs.List.{list_any}
use Rattle.pl_plan.specs.Tests as spec
use Rattle.pl_plan.proofs.asks.any_past.Given as goal

abbrev pub invariant-loop-column : goal.invariant-loop-column
invariant-loop-column l = list_any (spec.is_past l.width) (drop l.column-index l.columns) ≡ list_any (spec.is_past l.width) l.columns
