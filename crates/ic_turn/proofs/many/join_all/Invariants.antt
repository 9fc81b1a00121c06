use Rattle.std.proofs.Common.{◌≡◌, ◌++◌}
use Rattle.ic_turn.specs.Many.{all_joined}
use Rattle.ic_turn.proofs.many.join_all.Given as goal

-- the others so far were joined
abbrev pub invariant-loop-other : goal.invariant-loop-other
invariant-loop-other g l =
    (l.pass.turn ≡ l.turn) × (l.pass ≡ all_joined l.fn.pass l.yielded) × (l.yielded ++ l.other-iterator.rest.items ≡ l.fn.others.items)
