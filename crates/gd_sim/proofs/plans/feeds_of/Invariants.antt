use Rattle.std.proofs.Common.{◌≡◌, take, Some}
use Rattle.gd_sim.specs.Plans.{feeds_of}
use Rattle.gd_sim.proofs.plans.feeds_of.Given as goal

abbrev pub invariant-loop-plan : goal.invariant-loop-plan
invariant-loop-plan l = feeds_of (take l.plan-index l.plans) ≡ Some l.feeds.items
