use Rattle.std.proofs.Common.{◌≡◌}
use Rattle.pl_plan.specs.Motions.{segments_from}
use Rattle.pl_plan.proofs.layout.first_segments.Given as goal

abbrev pub invariant-loop-i : goal.invariant-loop-i
invariant-loop-i l = l.segments.items ≡ segments_from 0 l.i
