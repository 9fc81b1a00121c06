use Rattle.std.proofs.Common.{◌≡◌, drop}
use Rattle.std.specs.List.{list_any}
use Rattle.pl_plan.specs.Tests as spec
use Rattle.pl_plan.proofs.asks.any_sums_no_int.Given as goal

abbrev pub invariant-loop-call : goal.invariant-loop-call
invariant-loop-call l = list_any (spec.sums_no_int l.kinds) (drop l.call-index l.calls) ≡ list_any (spec.sums_no_int l.kinds) l.calls
