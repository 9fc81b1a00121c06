use Rattle.std.proofs.Common.{inl, inr, refl, sym, subst, get_or}
use Rattle.std.specs.List.{Contains}
use Rattle.std.proofs.lemmas.List.{take_all}
use Rattle.std.proofs.lemmas.List.Elements.{Contains-get_or}
use Rattle.ic_law.proofs.Lists.{Contains-none}
use Rattle.ic_receiver.specs.Standing.{TakesNoMore}
use Rattle.ic_hub.specs.Taking.{AllDone, OneOpen}
use Rattle.ic_hub.proofs.Receivers.{at_place}
use Rattle.ic_hub.proofs.Choosing.{next_cases, is_it}
use Rattle.ic_hub.proofs.take.refusal.Goals as goal

pub loop-place-init : goal.loop-place-init
loop-place-init c = λ place r among at. absurd (Contains-none place among)

pub returns-then-not-is_over : goal.returns-then-not-is_over
returns-then-not-is_over c =
    OneOpen (get_or c.args.places.now c.loop-place.place-index 0) c.index-receivers-place.result (Contains-get_or c.args.places.now c.loop-place.place-index 0 c.loop-place-test.true)
    (at_place c.args.receivers.now _ c.index-receivers-place.result (c.requires.within c.loop-place.place-index 0 c.loop-place-test.true) c.index-receivers-place.is)
    (c.if-not-is_over.ensures.runs refl) refl

pub loop-place-preserved : goal.loop-place-preserved
loop-place-preserved c = λ place r among at. elim (next_cases c.args.places.now c.loop-place.place-index place c.loop-place-test.true among) [
  | inl there ↦ c.loop-place.invariant place r there at
  | inr same ↦ (
      let here = at_place c.args.receivers.now _ c.index-receivers-place.result (c.requires.within c.loop-place.place-index 0 c.loop-place-test.true) c.index-receivers-place.is in
      subst TakesNoMore (is_it c.args.receivers.now _ place c.index-receivers-place.result r here same at) (c.if-not-is_over.ensures.over refl))
]

pub returns : goal.returns
returns c = AllDone (λ place r among at. c.loop-place.invariant place r (subst (λ xs. Contains xs place) (sym (take_all c.loop-place.place-index c.args.places.now c.loop-place-test.false)) among) at) refl
