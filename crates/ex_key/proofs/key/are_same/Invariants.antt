use Rattle.std.proofs.Common.{◌≡◌, drop}
use Rattle.pl_ops.specs.Groups.{same_line}
use Rattle.ex_key.proofs.key.are_same.Given as goal

abbrev pub invariant-loop-i : goal.invariant-loop-i
invariant-loop-i l = same_line (drop l.i l.a) (drop l.i l.b) ≡ same_line l.a l.b
