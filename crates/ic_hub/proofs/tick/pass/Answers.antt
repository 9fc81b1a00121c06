use Rattle.std.proofs.Common.{◌≡◌, ◌+◌, sym, subst, arith, ◌∙◌, ap, set}
use Rattle.ic_timed_sender.specs.Timed.{TimedState, ticking}
use Rattle.ic_hub.specs.Ticking.{MayResend, MayAsk, Passes, Begins, Leaves, plan_for}
use Rattle.ic_hub.proofs.Places.{all_at}
use Rattle.ic_hub.proofs.Ticking.{Passed, passed_more, passed_all, stands_next, left_begins, left_more, left_none}
use Rattle.ic_hub.proofs.tick.pass.Goals as goal

pub pass_one-rest-requires-clause-plan : goal.pass_one-rest-requires-clause-plan
pass_one-rest-requires-clause-plan c =
    let old = c.args.senders.now in
    let o = c.index-senders-i.result in
    let at = stands_next ticking Passes c.loop-i.i old c.loop-i.senders o c.loop-i.invariant.passed (omega (arith, c.loop-i-test.true)) c.index-senders-i.is in
    subst (λ (x : TimedState). Begins (plan_for x) c.loop-i.rest.now) c.index-senders-i.is (left_begins plan_for old c.loop-i.i o c.args.plan.now c.loop-i.rest.now at c.requires.plan c.loop-i.invariant.left)

pub pass_one-rest-requires-clause-packets : goal.pass_one-rest-requires-clause-packets
pass_one-rest-requires-clause-packets c =
    let old = c.args.senders.now in
    let o = c.index-senders-i.result in
    let at = stands_next ticking Passes c.loop-i.i old c.loop-i.senders o c.loop-i.invariant.passed (omega (arith, c.loop-i-test.true)) c.index-senders-i.is in
    subst MayResend c.index-senders-i.is (all_at MayResend old c.loop-i.i o c.requires.packets at)

pub pass_one-rest-requires-clause-queries : goal.pass_one-rest-requires-clause-queries
pass_one-rest-requires-clause-queries c =
    let old = c.args.senders.now in
    let o = c.index-senders-i.result in
    let at = stands_next ticking Passes c.loop-i.i old c.loop-i.senders o c.loop-i.invariant.passed (omega (arith, c.loop-i-test.true)) c.index-senders-i.is in
    subst MayAsk c.index-senders-i.is (all_at MayAsk old c.loop-i.i o c.requires.queries at)

pub loop-i-preserved : goal.loop-i-preserved
loop-i-preserved c =
    let old = c.args.senders.now in
    let o = c.index-senders-i.result in
    let at = stands_next ticking Passes c.loop-i.i old c.loop-i.senders o c.loop-i.invariant.passed (omega (arith, c.loop-i-test.true)) c.index-senders-i.is in
    let now = c.pass_one-rest.new.sender in
    let is : now ≡ ticking o = c.pass_one-rest.ensures.ok ∙ ap ticking (sym c.index-senders-i.is) in
    let here = subst Passes (sym c.index-senders-i.is) c.pass_one-rest.ensures.stands in
    let leaves = subst (λ (x : TimedState). Leaves (plan_for x) c.loop-i.rest.now c.pass_one-rest.result.now) (sym c.index-senders-i.is) c.pass_one-rest.ensures.rest in
    record {
      passed = subst (λ (x : TimedState). Passed ticking Passes (c.loop-i.i + 1) old (set c.loop-i.senders c.loop-i.i x)) (sym is) (passed_more ticking Passes c.loop-i.i old c.loop-i.senders o at here c.loop-i.invariant.passed);
      left = left_more plan_for old c.loop-i.i o c.args.plan.now c.loop-i.rest.now c.pass_one-rest.result.now at c.loop-i.invariant.left leaves;
    }

pub returns-clause-ok : goal.returns-clause-ok
returns-clause-ok c = (passed_all ticking Passes c.loop-i.i c.args.senders.now c.loop-i.senders (omega (arith, c.loop-i-test.false)) c.loop-i.invariant.passed).are

pub returns-clause-stands : goal.returns-clause-stands
returns-clause-stands c = (passed_all ticking Passes c.loop-i.i c.args.senders.now c.loop-i.senders (omega (arith, c.loop-i-test.false)) c.loop-i.invariant.passed).known

pub returns-clause-rest : goal.returns-clause-rest
returns-clause-rest c =
    let count = c.loop-i.invariant.passed.count in
    left_none plan_for c.args.senders.now c.loop-i.i c.args.plan.now c.loop-i.rest.now (omega (arith, c.loop-i-test.false, count)) c.loop-i.invariant.left
