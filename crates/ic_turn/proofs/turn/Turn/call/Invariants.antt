use Rattle.std.proofs.Common.{◌≡◌, ℕ, ◌+◌}
use Rattle.ic_turn.proofs.turn.Turn.call.Given as goal

-- the ask is here, and so far others were met
abbrev pub invariant-loop : goal.invariant-loop
invariant-loop g l =
    (goal.iterator-loop g).can_next l.iterator' × (goal.iterator-loop g).is_finite l.iterator'
    × (l.ask ≡ l.fn.ask) × (often : ℕ) × (l.pass ≡ record l.initial.pass { met = l.initial.pass.met + often })
