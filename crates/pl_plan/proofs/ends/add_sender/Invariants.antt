use Rattle.std.proofs.Common.{◌≡◌, ◌++◌, map, take}
use Rattle.std.specs.Prelude.{flat_map}
use Rattle.pl_plan.specs.Asking as spec
use Rattle.pl_plan.proofs.ends.add_sender.Given as goal

abbrev pub invariant-loop-to : goal.invariant-loop-to
invariant-loop-to l = l.ends.items ≡ l.fn.ends.items ++ flat_map (spec.ends_of l.asked) (map (spec.between l.motion l.from) (take l.to-index l.receivers))
