use Rattle.std.proofs.Common.{◌≡◌}
use Rattle.ic_sendring.proofs.tests.drawn.agree.Given as goal

abbrev pub invariant-loop : goal.invariant-loop
invariant-loop l = l.both.ring.packet ≡ 72
