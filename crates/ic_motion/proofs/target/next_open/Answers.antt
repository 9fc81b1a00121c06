use Rattle.std.proofs.Common.{◌≡◌, ◌≤◌, ℕ, inl, inr, subst, arith}
use Rattle.std.proofs.lemmas.Bool.{cases_lt}
use Rattle.ic_motion.specs.Putting.{IsOpen}
use Rattle.ic_motion.proofs.target.next_open.Goals as goal

pub loop-place-preserved : goal.loop-place-preserved
loop-place-preserved c =
    let k : ℕ = c.loop-place.place in
    let from : c.args.at ≤ k = c.loop-place.invariant.0 in (
      omega (arith, from),
      λ p ge lt open_. elim (cases_lt p k) [
        | inl below ↦ c.loop-place.invariant.1 p ge below open_
        | inr le ↦ let same : p ≡ k = omega (arith, lt, le) in c.is_open.ensures.no_ c.if-is_open.false (subst (IsOpen c.args.targets.now) same open_)
      ],
    )
