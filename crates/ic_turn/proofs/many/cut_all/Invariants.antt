use Rattle.std.proofs.Common.{◌≡◌, ◌+◌, ◌<◌, reverse, vec_capacity, vec_len}
use Rattle.ic_turn.specs.Many.{given_after}
use Rattle.ic_turn.proofs.many.cut_all.Given as goal

-- the greatest numbers were given, the greatest first, and there is room for the others
abbrev pub invariant-loop : goal.invariant-loop
invariant-loop g l =
    (l.fn.pass.spare ≡ l.pass.spare + l.counter) × (l.pass ≡ record l.fn.pass { spare = l.pass.spare }) × (reverse l.passes.items ≡ given_after l.pass.spare l.counter l.fn.pass)
    × (vec_len l.passes ≡ l.counter) × (l.spare < vec_capacity l.passes)
