use Rattle.std.proofs.Common.{sym, subst}
use Rattle.std.proofs.lemmas.List.{take_all}
use Rattle.ic_law.proofs.Lists.{Contains-none}
use Rattle.ic_hub.specs.Taking.{Finds, FindsFirst}
use Rattle.ic_hub.proofs.Receivers.{at_place}
use Rattle.ic_hub.proofs.Choosing.{found_next}
use Rattle.ic_hub.proofs.take.first_ready.Goals as goal

pub loop-place-init : goal.loop-place-init
loop-place-init c = λ place r among at. absurd (Contains-none place among)

pub loop-place-preserved : goal.loop-place-preserved
loop-place-preserved c =
    found_next c.args.receivers.now c.args.places.now c.loop-place.place-index c.args.last c.loop-place.first c.first_of-first.result c.index-receivers-place.result c.loop-place-test.true
    (at_place c.args.receivers.now _ c.index-receivers-place.result (c.requires.within c.loop-place.place-index 0 c.loop-place-test.true) c.index-receivers-place.is) c.first_of-first.ensures c.loop-place.invariant

pub returns-in_err-first : goal.returns-in_err-first
returns-in_err-first c =
    let found = subst (λ xs. Finds c.args.receivers.now xs c.args.last c.loop-place.first) (take_all c.loop-place.place-index c.args.places.now c.loop-place-test.false) c.loop-place.invariant in
    subst (FindsFirst c.args.receivers.now c.args.places.now c.args.last) (sym c.from_residual.ensures) (subst (Finds c.args.receivers.now c.args.places.now c.args.last) c.in_err-first.was found)

pub returns : goal.returns
returns c =
    let found = subst (λ xs. Finds c.args.receivers.now xs c.args.last c.loop-place.first) (take_all c.loop-place.place-index c.args.places.now c.loop-place-test.false) c.loop-place.invariant in
    (c.in_ok-first.field-0.rank, subst (Finds c.args.receivers.now c.args.places.now c.args.last) c.in_ok-first.was found)
