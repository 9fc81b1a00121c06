use Rattle.std.proofs.Common.{◌≡◌, None, replicate}
use Rattle.ic_hub.proofs.begin.unserved.Given as goal

abbrev pub invariant-loop : goal.invariant-loop
invariant-loop l = l.served.items ≡ replicate l.counter None
