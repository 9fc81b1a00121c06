use Rattle.std.proofs.Common.{◌≡◌, ◌+◌, ◌≤◌, length, map, drop}
use Rattle.std.specs.Prelude.{min}
use Rattle.pl_expr.specs.Entries.{entries_of, in_turn}
use Rattle.pl_expr.proofs.expr.+size.Given as goal

abbrev pub invariant-size_of_all-loop-part : goal.invariant-size_of_all-loop-part
invariant-size_of_all-loop-part l =
    (min (l.size + length (in_turn (map entries_of (drop l.part-index l.parts)))) 18446744073709551615 ≡ min (length (in_turn (map entries_of l.parts))) 18446744073709551615) × (l.size ≤ 18446744073709551615)
