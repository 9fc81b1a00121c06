use Rattle.std.proofs.Common.{◌+◌, [], sym, subst, arith, ◌∙◌, ap, set, append-nil}
use Rattle.std.specs.List.{AllByRecursion, flat_map}
use Rattle.ic_hub.specs.Hubbing.{Living}
use Rattle.ic_hub.specs.Ticking.{MayTick, Passes, Begins, Leaves, plan_of, ticked_query}
use Rattle.ic_hub.proofs.Places.{all_at}
use Rattle.ic_hub.proofs.Ticking.{Passed, passed_more, passed_all, stands_next, left_begins, left_more}
use Rattle.ic_hub.proofs.tick.pass_all.Goals as goal

pub ticked-rest-requires-clause-plan : goal.ticked-rest-requires-clause-plan
ticked-rest-requires-clause-plan c =
    let old = c.args.live.now in
    let l = c.index-live-i.result in
    let at = stands_next ticked_query (λ (q : Living). AllByRecursion Passes q.senders) c.loop-i.i old c.loop-i.live l c.loop-i.invariant.passed (omega (arith, c.loop-i-test.true)) c.index-live-i.is in
    let begins : Begins (flat_map plan_of old) c.args.plan.now = record { rest = []; is = c.requires.plan ∙ sym (append-nil (flat_map plan_of old)) } in
    subst (λ (x : Living). Begins (plan_of x) c.loop-i.rest.now) c.index-live-i.is (left_begins plan_of old c.loop-i.i l c.args.plan.now c.loop-i.rest.now at begins c.loop-i.invariant.left)

pub ticked-rest-requires-clause-may : goal.ticked-rest-requires-clause-may
ticked-rest-requires-clause-may c =
    let old = c.args.live.now in
    let l = c.index-live-i.result in
    let at = stands_next ticked_query (λ (q : Living). AllByRecursion Passes q.senders) c.loop-i.i old c.loop-i.live l c.loop-i.invariant.passed (omega (arith, c.loop-i-test.true)) c.index-live-i.is in
    subst MayTick c.index-live-i.is (all_at MayTick old c.loop-i.i l c.requires.may at)

pub loop-i-preserved : goal.loop-i-preserved
loop-i-preserved c =
    let old = c.args.live.now in
    let l = c.index-live-i.result in
    let at = stands_next ticked_query (λ (q : Living). AllByRecursion Passes q.senders) c.loop-i.i old c.loop-i.live l c.loop-i.invariant.passed (omega (arith, c.loop-i-test.true)) c.index-live-i.is in
    let leaves = subst (λ (x : Living). Leaves (plan_of x) c.loop-i.rest.now c.ticked-rest.result.now) (sym c.index-live-i.is) c.ticked-rest.ensures.rest in
    record {
      passed = subst (λ (x : Living). Passed ticked_query (λ (q : Living). AllByRecursion Passes q.senders) (c.loop-i.i + 1) old (set c.loop-i.live c.loop-i.i x)) (sym (c.ticked-rest.ensures.ok ∙ ap ticked_query (sym c.index-live-i.is)))
          (passed_more ticked_query (λ (q : Living). AllByRecursion Passes q.senders) c.loop-i.i old c.loop-i.live l at (subst (λ (x : Living). AllByRecursion Passes x.senders) (sym c.index-live-i.is) c.ticked-rest.ensures.stands) c.loop-i.invariant.passed);
      left = left_more plan_of old c.loop-i.i l c.args.plan.now c.loop-i.rest.now c.ticked-rest.result.now at c.loop-i.invariant.left leaves;
    }

pub returns-clause-ok : goal.returns-clause-ok
returns-clause-ok c = (passed_all ticked_query (λ (q : Living). AllByRecursion Passes q.senders) c.loop-i.i c.args.live.now c.loop-i.live (omega (arith, c.loop-i-test.false)) c.loop-i.invariant.passed).are

pub returns-clause-stands : goal.returns-clause-stands
returns-clause-stands c = (passed_all ticked_query (λ (q : Living). AllByRecursion Passes q.senders) c.loop-i.i c.args.live.now c.loop-i.live (omega (arith, c.loop-i-test.false)) c.loop-i.invariant.passed).known
