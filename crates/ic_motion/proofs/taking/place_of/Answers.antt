use Rattle.std.proofs.Common.{◌<◌, length, subst}
use Rattle.ic_motion.proofs.Places.{place_end, place_among}
use Rattle.ic_motion.proofs.taking.place_of.Goals as goal

pub returns-clause-among : goal.returns-clause-among
returns-clause-among c =
    λ among. subst (λ k. k < length c.args.tracks.now) (place_end c.args.tracks.now c.args.sender c.loop-place.place c.loop-place-test.false c.loop-place.invariant.1) (place_among c.args.tracks.now c.args.sender among)
