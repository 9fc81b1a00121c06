use Rattle.std.proofs.Common.{◌<◌, ◌≤◌, ℕ, length, sym, ◌∙◌, arith}
use Rattle.ic_motion.proofs.Receivers.{target_there, over_next, over_drop}
use Rattle.ic_motion.proofs.target.next_unfinished.Goals as goal

pub loop-place-preserved : goal.loop-place-preserved
loop-place-preserved c =
    let k : ℕ = c.loop-place.place in
    let lt : k < length c.args.targets.now = c.loop-place-test.true in
    (omega (arith, lt), sym (over_next c.args.targets.now k c.index-targets-place.result lt c.index-targets-place.is (sym c.is_over.ensures ∙ c.if-not-is_over.false)) ∙ c.loop-place.invariant.1)

pub returns-then-not-is_over : goal.returns-then-not-is_over
returns-then-not-is_over c =
    let k : ℕ = c.loop-place.place in
    let lt : k < length c.args.targets.now = c.loop-place-test.true in
    record {
      most = omega (arith, lt);
      left = λ _. (c.index-targets-place.result, target_there c.args.targets.now k c.index-targets-place.result lt c.index-targets-place.is, sym c.is_over.ensures ∙ c.if-not-is_over.true);
      none = λ is. absurd (omega (arith, lt, is));
    }

pub returns : goal.returns
returns c =
    let k : ℕ = c.loop-place.place in
    let le : length c.args.targets.now ≤ k = c.loop-place-test.false in
    record {
      most = c.loop-place.invariant.0;
      left = λ lt. absurd (omega (arith, lt, le));
      none = λ is. sym c.loop-place.invariant.1 ∙ over_drop c.args.targets.now k le;
    }
