use Rattle.std.proofs.Common.{◌≡◌}
use Rattle.ic_turn.specs.Passes.{Grows}
use Rattle.ic_turn.proofs.tests.ask_often.Given as goal

abbrev pub invariant-loop : goal.invariant-loop
invariant-loop g l = (l.pass.turn ≡ l.turn) × Grows l.counter l.fn.pass l.pass
