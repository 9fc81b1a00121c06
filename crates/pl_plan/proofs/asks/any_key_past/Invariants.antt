use Rattle.std.proofs.Common.{◌≡◌, drop}
use Rattle.std.specs.List.{list_any}
use Rattle.pl_plan.specs.Tests as spec
use Rattle.pl_plan.proofs.asks.any_key_past.Given as goal

abbrev pub invariant-loop-key : goal.invariant-loop-key
invariant-loop-key l = list_any (spec.key_past l.width) (drop l.key-index l.keys) ≡ list_any (spec.key_past l.width) l.keys
