use Rattle.std.proofs.Common.{◌≡◌, ◌+◌, drop}
use Rattle.pl_plan.specs.Limits.{senders_in}
use Rattle.pl_plan.proofs.limits.worker_count.Given as goal

abbrev pub invariant-loop-motion : goal.invariant-loop-motion
invariant-loop-motion l = l.count + senders_in l.segments (drop l.motion-index l.motions) ≡ senders_in l.segments l.motions
