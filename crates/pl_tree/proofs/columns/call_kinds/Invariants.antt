use Rattle.std.proofs.Common.{◌≡◌, map, take}
use Rattle.pl_tree.specs.Columns as spec
use Rattle.pl_tree.proofs.columns.call_kinds.Given as goal

abbrev pub invariant-loop-call : goal.invariant-loop-call
invariant-loop-call l = l.results ≡ map (spec.call_kind l.kinds) (take l.call-index l.calls)
