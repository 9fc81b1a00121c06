use Rattle.std.proofs.Common.{length, take, Some, ap, sym, ◌∙◌, subst}
use Rattle.std.specs.List.{AllByRecursion}
use Rattle.std.proofs.lemmas.List.{take_all}
use Rattle.gd_sim.specs.Feeding.{IsFeed}
use Rattle.gd_sim.specs.Plans.{feeds_of}
use Rattle.gd_sim.proofs.Counting.{next_taken}
use Rattle.gd_sim.proofs.Feeds.{feeds-push, length-feeds, all-push}
use Rattle.gd_sim.proofs.plans.sure_feeds.Goals as goal

pub loop-plan-preserved : goal.loop-plan-preserved
loop-plan-preserved c =
    let plans = c.args.plans.now in
    let i = c.loop-plan.plan-index in
    record {
      gather =
          ap feeds_of (next_taken plans i c.plan-item.result c.loop-plan-test.true c.plan-item.is)
          ∙ feeds-push (take i plans) c.plan-item.result c.loop-plan.feeds.items c.sure_feed.result c.loop-plan.invariant.gather c.sure_feed.ensures.gathers
          ∙ ap Some (sym c.in_ok-push.ensures.items);
      each =
          subst (AllByRecursion (IsFeed c.args.segments c.args.loaded.now)) (sym c.in_ok-push.ensures.items)
          (all-push (IsFeed c.args.segments c.args.loaded.now) c.loop-plan.feeds.items c.sure_feed.result c.loop-plan.invariant.each c.sure_feed.ensures.feed);
    }

pub returns-clause-count : goal.returns-clause-count
returns-clause-count c =
    length-feeds (take c.loop-plan.plan-index c.args.plans.now) c.loop-plan.feeds.items c.loop-plan.invariant.gather
    ∙ ap length (take_all c.loop-plan.plan-index c.args.plans.now c.loop-plan-test.false)
