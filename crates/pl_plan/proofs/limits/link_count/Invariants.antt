use Rattle.std.proofs.Common.{◌≡◌, ◌+◌, length, drop}
use Rattle.pl_plan.specs.Limits.{links_in_rows}
use Rattle.pl_plan.proofs.limits.link_count.Given as goal

abbrev pub invariant-loop-motion : goal.invariant-loop-motion
invariant-loop-motion l = l.count + length (links_in_rows l.segments (drop l.motion-index l.motions)) ≡ length (links_in_rows l.segments l.motions)
