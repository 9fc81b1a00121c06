use Rattle.std.proofs.Common.{◌<◌, ◌≤◌, ℕ, length, sym, ◌∙◌, arith}
use Rattle.ic_motion.proofs.Places.{lane_there, heard_next, heard_drop}
use Rattle.ic_motion.proofs.halting.next_going.Goals as goal

pub loop-place-preserved : goal.loop-place-preserved
loop-place-preserved c =
    let k : ℕ = c.loop-place.place in
    let lt : k < length c.args.tracks.now = c.loop-place-test.true in
    (omega (arith, lt), sym (heard_next c.args.tracks.now k c.index-tracks-place.result lt c.index-tracks-place.is (sym c.is_heard.ensures ∙ c.if-not-is_heard.false)) ∙ c.loop-place.invariant.1)

pub returns-then-not-is_heard : goal.returns-then-not-is_heard
returns-then-not-is_heard c =
    let k : ℕ = c.loop-place.place in
    let lt : k < length c.args.tracks.now = c.loop-place-test.true in
    record {
      most = omega (arith, lt);
      left = λ _. (c.index-tracks-place.result, lane_there c.args.tracks.now k c.index-tracks-place.result lt c.index-tracks-place.is, sym c.is_heard.ensures ∙ c.if-not-is_heard.true);
      none = λ is. absurd (omega (arith, lt, is));
    }

pub returns : goal.returns
returns c =
    let k : ℕ = c.loop-place.place in
    let le : length c.args.tracks.now ≤ k = c.loop-place-test.false in
    record {
      most = c.loop-place.invariant.0;
      left = λ lt. absurd (omega (arith, lt, le));
      none = λ is. sym c.loop-place.invariant.1 ∙ heard_drop c.args.tracks.now k le;
    }
