use Rattle.std.proofs.Common.{◌≡◌, ◌<◌, length, get_or, take, Some, ap, sym, ◌∙◌, subst}
use Rattle.gd_sim.specs.Plans.{feeds_of}
use Rattle.gd_sim.proofs.Counting.{next_taken, get_at}
use Rattle.gd_sim.proofs.Feeds.{feeds-push, feeds-none}
use Rattle.gd_sim.proofs.plans.feeds_of.Goals as goal

pub loop-plan-preserved : goal.loop-plan-preserved
loop-plan-preserved c =
    let plans = c.args.plans.now in
    let i = c.loop-plan.plan-index in
    let within : i < length plans = subst (λ l. i < length l) c.as_slice-plan-items.ensures c.loop-plan-test.true in
    let is : c.plan-item.result ≡ get_or plans i c.plan-item.result = subst (λ l. c.plan-item.result ≡ get_or l i c.plan-item.result) c.as_slice-plan-items.ensures c.plan-item.is in
    ap feeds_of (next_taken plans i c.plan-item.result within is)
    ∙ feeds-push (take i plans) c.plan-item.result c.loop-plan.feeds.items c.in-Some.feed c.loop-plan.invariant (sym c.in-Some.ensures)
    ∙ ap Some (sym c.in_ok-push-in-Some.ensures.items)

pub returns-in-None : goal.returns-in-None
returns-in-None c =
    let plans = c.args.plans.now in
    let i = c.loop-plan.plan-index in
    let within : i < length plans = subst (λ l. i < length l) c.as_slice-plan-items.ensures c.loop-plan-test.true in
    let is : c.plan-item.result ≡ get_or plans i c.plan-item.result = subst (λ l. c.plan-item.result ≡ get_or l i c.plan-item.result) c.as_slice-plan-items.ensures c.plan-item.is in
    sym (feeds-none plans i c.plan-item.result (get_at plans i c.plan-item.result within is) (sym c.in-None.ensures))
