use Rattle.std.proofs.Common.{◌≡◌, ◌<◌, ◌+◌, ◌^◌, length, map, drop}
use Rattle.pl_expr.specs.Entries.{entries_of, in_turn}
use Rattle.pl_expr.specs.Walking.{walked}
use Rattle.pl_expr.proofs.typing.+walk.Given as goal

abbrev pub invariant-walk_all-loop-part : goal.invariant-walk_all-loop-part
invariant-walk_all-loop-part l =
    (walked l.kinds l.reached (in_turn (map entries_of (drop l.part-index l.parts))) ≡ walked l.kinds l.fn.place (in_turn (map entries_of l.parts)))
    × (l.reached + length (in_turn (map entries_of (drop l.part-index l.parts))) < 2 ^ 32)
