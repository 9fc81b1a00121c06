use Rattle.std.proofs.Common.{◌≡◌, take}
use Rattle.std.specs.Prelude.{flat_map}
use Rattle.pl_plan.specs.Asking as spec
use Rattle.pl_plan.proofs.ends.all_ends.Given as goal

abbrev pub invariant-loop-motion : goal.invariant-loop-motion
invariant-loop-motion l = l.ends.items ≡ flat_map (spec.motion_ends l.segments l.asked) (take l.motion-index l.motions)
