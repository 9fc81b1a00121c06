use Rattle.std.proofs.Common.{◌≡◌, ◌++◌, take}
use Rattle.std.specs.Prelude.{flat_map}
use Rattle.pl_plan.specs.Asking as spec
use Rattle.pl_plan.proofs.ends.add_motion.Given as goal

abbrev pub invariant-loop-from : goal.invariant-loop-from
invariant-loop-from l = l.ends.items ≡ l.fn.ends.items ++ flat_map (spec.sender_ends l.asked l.motion l.receivers) (take l.from-index l.senders)
