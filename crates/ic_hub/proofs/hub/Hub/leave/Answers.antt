use Rattle.std.proofs.Common.{[], ◌∷◌, ◌++◌, Ok, ap, sym, ◌∙◌, subst, slice_index_or, refl}
use Rattle.ic_law.specs.Arriving.{LeftUnclear, LeftNothing}
use Rattle.ic_hub.specs.Hubbing.{Hubbing, IsHub}
use Rattle.ic_hub.specs.Standing.{Stands}
use Rattle.ic_hub.specs.Entries.{leave_entry}
use Rattle.ic_hub.specs.Leaving.{TellsUnclear}
use Rattle.ic_hub.proofs.Shape.{shape_of}
use Rattle.ic_hub.proofs.Finds.{indexed}
use Rattle.ic_hub.proofs.Leaving.{found_by, live_there, not_found, leave_refused, left_stands, left_is, hub_left, hub_without, table_left}
use Rattle.ic_hub.specs.contracts.hub.Hub.{the_view}
use Rattle.ic_hub.proofs.hub.Hub.leave.Goals as goal

pub returns-in_default-clause-stands : goal.returns-in_default-clause-stands
returns-in_default-clause-stands c h stands =
    let is = subst (λ (s : Hubbing). IsHub s c.self.inside.table) c.self.view_is c.self.invariant in
    leave_refused c.args.self.now h c.args.query _ (shape_of c.args.self.now c.self.inside.table is) stands (LeftNothing (not_found c.args.self.now h c.args.query stands (sym c.place_of.ensures ∙ c.in_default.is)) refl)

pub returns-in-Some-first_unclear-clause-stands : goal.returns-in-Some-first_unclear-clause-stands
returns-in-Some-first_unclear-clause-stands c h stands =
    let is = subst (λ (s : Hubbing). IsHub s c.self.inside.table) c.self.view_is c.self.invariant in
    let live = ap (λ (s : Hubbing). s.live) (sym c.self.view_is) in
    let first = sym c.place_of.ensures ∙ c.in-Some.is in
    let here = indexed c.args.self.now.live c.args.query c.in-Some.place c.index.result.now first (c.index.ensures ∙ ap (λ xs. slice_index_or xs c.in-Some.place c.index.result.now) (sym live)) in
    let number = found_by c.args.self.now.live c.args.query c.in-Some.place c.index.result.now first here in
    let there = live_there c.args.self.now h c.args.query c.in-Some.place c.index.result.now stands here number in
    let unclear = subst (TellsUnclear c.index.result.now) c.in-Some-first_unclear.is c.first_unclear.ensures in
    leave_refused c.args.self.now h c.args.query _ (shape_of c.args.self.now c.self.inside.table is) stands
    (LeftUnclear c.index.result.now.ends there c.in-Some-first_unclear.key (unclear c.args.self.now.settings h (stands.each c.in-Some.place c.index.result.now here)) refl)

pub invariant_of-self : goal.invariant_of-self
invariant_of-self c =
    let is = subst (λ (s : Hubbing). IsHub s c.self.inside.table) c.self.view_is c.self.invariant in
    let live = ap (λ (s : Hubbing). s.live) (sym c.self.view_is) in
    let first = sym c.place_of.ensures ∙ c.in-Some.is in
    let here = indexed c.args.self.now.live c.args.query c.in-Some.place c.index.result.now first (c.index.ensures ∙ ap (λ xs. slice_index_or xs c.in-Some.place c.index.result.now) (sym live)) in
    let number = found_by c.args.self.now.live c.args.query c.in-Some.place c.index.result.now first here in
    let hub = hub_without c.args.self.now c.self.inside.table c.args.query c.in-Some.place c.index.result.now is here number in
    let new = table_left c.args.self.now c.self.inside.table c.leave-left.new.self c.args.query c.in-Some.place c.index.result.now c.leave-left.result is here number c.leave-left.ensures.ok c.leave-left.ensures.err in
    hub_left (the_view c.self.inside) c.args.self.now c.self.inside.table c.leave-left.new.self c.args.query c.in-Some.place c.remove-gone.new.self.items c.self.view_is refl new c.remove-gone.ensures.items hub

pub returns-clause-stands : goal.returns-clause-stands
returns-clause-stands c h stands =
    let is = subst (λ (s : Hubbing). IsHub s c.self.inside.table) c.self.view_is c.self.invariant in
    let live = ap (λ (s : Hubbing). s.live) (sym c.self.view_is) in
    let first = sym c.place_of.ensures ∙ c.in-Some.is in
    let here = indexed c.args.self.now.live c.args.query c.in-Some.place c.index.result.now first (c.index.ensures ∙ ap (λ xs. slice_index_or xs c.in-Some.place c.index.result.now) (sym live)) in
    let number = found_by c.args.self.now.live c.args.query c.in-Some.place c.index.result.now first here in
    let clear = subst (TellsUnclear c.index.result.now) c.in_default-first_unclear.is c.first_unclear.ensures in
    let done = left_stands c.args.self.now h c.args.query c.in-Some.place c.index.result.now (shape_of c.args.self.now c.self.inside.table is) stands here number (clear c.args.self.now.settings h (stands.each c.in-Some.place c.index.result.now here)) in
    let new = table_left c.args.self.now c.self.inside.table c.leave-left.new.self c.args.query c.in-Some.place c.index.result.now c.leave-left.result is here number c.leave-left.ensures.ok c.leave-left.ensures.err in
    subst (λ (s : Hubbing). Stands s (h ++ leave_entry c.args.query (Ok tt) ∷ []))
    (left_is (the_view c.self.inside) c.args.self.now c.self.inside.table c.leave-left.new.self c.args.query c.in-Some.place c.remove-gone.new.self.items c.self.view_is refl new c.remove-gone.ensures.items) done
