use Rattle.std.proofs.Common.{◌≡◌, map, take}
use Rattle.pl_ops.specs.Groups.{value_of_none}
use Rattle.ex_agg.proofs.results.nothing.Given as goal

abbrev pub invariant-loop-call : goal.invariant-loop-call
invariant-loop-call l = l.values.items ≡ map value_of_none (take l.call-index l.calls)
