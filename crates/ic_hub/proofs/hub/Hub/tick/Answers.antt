use Rattle.std.proofs.Common.{◌++◌, List, ◌∷◌, [], Result, ◌∙◌, subst, ap}
use Rattle.std.specs.List.{AllByRecursion, flat_map}
use Rattle.ic_base.specs.declared.datagram.Datagram.{Datagram}
use Rattle.ic_law.specs.declared.history.TickNo.{TickNo}
use Rattle.ic_hub.specs.Hubbing.{Hubbing, Living, IsHub}
use Rattle.ic_hub.specs.Entries.{tick_entry}
use Rattle.ic_hub.specs.Standing.{Stands}
use Rattle.ic_hub.specs.Ticking.{MayTick, RefusedFirst, RefusedIn, emission_of}
use Rattle.ic_hub.proofs.Ticking.{handed_back}
use Rattle.ic_hub.proofs.TickingStands.{answered_stands}
use Rattle.ic_hub.proofs.TickingRefused.{refused_stands}
use Rattle.ic_hub.proofs.hub.Hub.tick.Goals as goal

pub returns-in_err-plan-clause-stands : goal.returns-in_err-plan-clause-stands
returns-in_err-plan-clause-stands c = λ h stands.
    let s = c.args.self.now in
    let table = c.self.inside.table in
    let is : IsHub s table = subst (λ (x : Hubbing). IsHub x table) c.self.view_is c.self.invariant in
    let live = c.as_slice.ensures.value ∙ ap (λ (x : Hubbing). x.live) c.self.view_is in
    let refused = subst (λ (xs : List Living). RefusedFirst MayTick RefusedIn xs c.in_err-plan.field-0.0) live c.in_err-plan.ensures.err in
    handed_back (λ (r : Result (List Datagram) TickNo). Stands s (h ++ tick_entry r ∷ [])) c.from_residual.result c.in_err-plan.field-0.0 c.from_residual.ensures.0 c.from_residual.ensures.1
    (refused_stands s table h c.in_err-plan.field-0.0 is stands refused)

pub returns-clause-stands : goal.returns-clause-stands
returns-clause-stands c = λ h stands.
    let s = c.args.self.now in
    let table = c.self.inside.table in
    let is : IsHub s table = subst (λ (x : Hubbing). IsHub x table) c.self.view_is c.self.invariant in
    let live = c.as_slice.ensures.value ∙ ap (λ (x : Hubbing). x.live) c.self.view_is in
    let may = subst (AllByRecursion MayTick) live c.in_ok-plan.ensures.may in
    let ds = c.in_ok-plan.ensures.datagrams ∙ ap (λ (xs : List Datagram). xs ++ flat_map emission_of c.as_slice.result.now) c.new-datagrams.ensures ∙ ap (flat_map emission_of) live in
    answered_stands s c.ticked.new.self table h c.all_due.new.datagrams is c.ticked.ensures.ok ds may c.ticked.ensures.stands stands
