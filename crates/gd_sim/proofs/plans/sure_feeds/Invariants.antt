use Rattle.std.proofs.Common.{◌≡◌, take, Some}
use Rattle.std.specs.List.{AllByRecursion}
use Rattle.gd_sim.specs.Feeding.{IsFeed}
use Rattle.gd_sim.specs.Plans.{feeds_of}
use Rattle.gd_sim.proofs.plans.sure_feeds.Given as goal

abbrev pub invariant-loop-plan : goal.invariant-loop-plan
invariant-loop-plan l =
    record {
      gather : feeds_of (take l.plan-index l.plans) ≡ Some l.feeds.items;
      each : AllByRecursion (IsFeed l.segments l.loaded) l.feeds.items;
    }
