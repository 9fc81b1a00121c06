use Rattle.std.proofs.Common.{◌≡◌}
use Rattle.gd_work.specs.Taking.{fresh_streams}
use Rattle.gd_work.proofs.gatherer.joiners.Given as goal

abbrev pub invariant-loop : goal.invariant-loop
invariant-loop l = l.joiners.items ≡ fresh_streams l.counter
