use Rattle.std.proofs.Common.{◌≡◌, ◌||◌, map, drop}
use Rattle.std.specs.List.{list_any}
use Rattle.pl_expr.specs.Entries.{entries_of, in_turn}
use Rattle.pl_expr.specs.Typing.{is_flawed}
use Rattle.pl_expr.proofs.typing.+flaw.Given as goal

abbrev pub invariant-any_has_flaw-loop-part : goal.invariant-any_has_flaw-loop-part
invariant-any_has_flaw-loop-part l =
    (l.so_far || list_any (is_flawed l.kinds l.what) (in_turn (map entries_of (drop l.part-index l.parts)))) ≡ list_any (is_flawed l.kinds l.what) (in_turn (map entries_of l.parts))
