use Rattle.std.proofs.Common.{ap, sym, ◌∙◌, subst, slice_index_or, refl}
use Rattle.ic_law.specs.Arriving.{ClearNow, NotClear}
use Rattle.ic_hub.specs.Hubbing.{Hubbing, IsHub}
use Rattle.ic_hub.specs.Leaving.{TellsUnclear}
use Rattle.ic_hub.proofs.Shape.{shape_of}
use Rattle.ic_hub.proofs.Finds.{indexed}
use Rattle.ic_hub.proofs.Leaving.{found_by, live_there, clear_stands, no_place}
use Rattle.ic_hub.proofs.hub.Hub.clear.Goals as goal

pub returns-in_default : goal.returns-in_default
returns-in_default c = absurd (no_place c.args.self.now c.args.query c.requires.live (sym c.place_of.ensures ∙ c.in_default.is))

pub returns-in-Some-first_unclear : goal.returns-in-Some-first_unclear
returns-in-Some-first_unclear c = record {
  stands = λ h stands.
      let is = subst (λ (s : Hubbing). IsHub s c.self.inside.table) c.self.view_is c.self.invariant in
      let live = ap (λ (s : Hubbing). s.live) (sym c.self.view_is) in
      let first = sym c.place_of.ensures ∙ c.in-Some.is in
      let here = indexed c.args.self.now.live c.args.query c.in-Some.place c.index.result.now first (c.index.ensures ∙ ap (λ xs. slice_index_or xs c.in-Some.place c.index.result.now) (sym live)) in
      let number = found_by c.args.self.now.live c.args.query c.in-Some.place c.index.result.now first here in
      let there = live_there c.args.self.now h c.args.query c.in-Some.place c.index.result.now stands here number in
      let unclear = subst (TellsUnclear c.index.result.now) c.in-Some-first_unclear.is c.first_unclear.ensures in
      clear_stands c.args.self.now h c.args.query _ (shape_of c.args.self.now c.self.inside.table is) stands (c.index.result.now.ends, there)
      (NotClear c.index.result.now.ends there c.in-Some-first_unclear.key (unclear c.args.self.now.settings h (stands.each c.in-Some.place c.index.result.now here)) _ refl refl);
}

pub returns-in-None : goal.returns-in-None
returns-in-None c = record {
  stands = λ h stands.
      let is = subst (λ (s : Hubbing). IsHub s c.self.inside.table) c.self.view_is c.self.invariant in
      let live = ap (λ (s : Hubbing). s.live) (sym c.self.view_is) in
      let first = sym c.place_of.ensures ∙ c.in-Some.is in
      let here = indexed c.args.self.now.live c.args.query c.in-Some.place c.index.result.now first (c.index.ensures ∙ ap (λ xs. slice_index_or xs c.in-Some.place c.index.result.now) (sym live)) in
      let number = found_by c.args.self.now.live c.args.query c.in-Some.place c.index.result.now first here in
      let there = live_there c.args.self.now h c.args.query c.in-Some.place c.index.result.now stands here number in
      let clear = subst (TellsUnclear c.index.result.now) c.in-None.is c.first_unclear.ensures in
      clear_stands c.args.self.now h c.args.query _ (shape_of c.args.self.now c.self.inside.table is) stands (c.index.result.now.ends, there)
      (ClearNow c.index.result.now.ends there (clear c.args.self.now.settings h (stands.each c.in-Some.place c.index.result.now here)) refl);
}
