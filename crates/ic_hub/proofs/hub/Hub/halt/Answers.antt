use Rattle.std.proofs.Common.{◌≡◌, Some, ap, sym, subst, slice_get, set, length, arith}
use Rattle.std.specs.Prelude.{OnErr}
use Rattle.std.proofs.lemmas.Option.{slice_get_within}
use Rattle.ic_hub.specs.contracts.hub.Hub.{the_view}
use Rattle.ic_hub.specs.Hubbing.{Hubbing}
use Rattle.ic_hub.specs.Standing.{Stands}
use Rattle.ic_hub.specs.Finding.{ReceiverIs}
use Rattle.ic_hub.proofs.Places.{Shaped}
use Rattle.ic_hub.proofs.Shape.{shape_of}
use Rattle.ic_hub.proofs.Receivers.{halt_end}
use Rattle.ic_hub.proofs.Taking.{halt_unknown, halt_stands, halt_err, hub_at, query_here, receiver_here}
use Rattle.ic_hub.proofs.hub.Hub.halt.Goals as goal

pub returns-in_default-clause-stands : goal.returns-in_default-clause-stands
returns-in_default-clause-stands c = λ h stands.
    halt_unknown c.args.self.now c.args.key.now h (subst (λ (s : Hubbing). Shaped s) c.self.view_is (shape_of (the_view c.self.inside) c.self.inside.table c.self.invariant)) c.in_default.ensures stands

pub index_mut-requires : goal.index_mut-requires
index_mut-requires c =
    let within = slice_get_within c.args.self.now.live c.in-Some.query c.in-Some.ensures.living c.in-Some.ensures.live in
    let live = ap (λ (s : Hubbing). length s.live) c.self.view_is in
    omega (arith, within, live, c.self.inside.live.ok.0)

pub halt-requires : goal.halt-requires
halt-requires c = record { here = receiver_here (the_view c.self.inside) c.args.self.now c.args.key.now c.in-Some.query c.in-Some.place c.index_mut.result.now c.self.view_is c.in-Some.ensures c.index_mut.ensures.value }

-- the query that is looked at
here : (c : goal.After-self-1) → slice_get c.self.inside.live.items c.in-Some.query ≡ Some c.index_mut.result.now
here c = query_here (the_view c.self.inside) c.args.self.now c.args.key.now c.in-Some.query c.in-Some.place c.index_mut.result.now c.self.view_is c.in-Some.ensures c.index_mut.ensures.value

pub invariant_of-self : goal.invariant_of-self
invariant_of-self c = hub_at _ (the_view c.self.inside) c.self.inside.table c.in-Some.query c.in-Some.place c.index_mut.result.now c.halt.new.self c.self.invariant (here c) c.halt.ensures (halt_end _ _ _ c.halt.ensures.does)

pub returns-clause-err : goal.returns-clause-err
returns-clause-err c =
    subst (λ (s : Hubbing). OnErr c.halt.result (record (the_view c.self.inside) { live = set c.self.inside.live.items c.in-Some.query c.halt.new.self } ≡ s)) c.self.view_is
    (halt_err (the_view c.self.inside) c.in-Some.query c.in-Some.place c.index_mut.result.now c.halt.new.self c.halt.result (here c) c.halt.ensures)

pub returns-clause-stands : goal.returns-clause-stands
returns-clause-stands c = λ h stands.
    halt_stands (the_view c.self.inside) c.args.key.now c.in-Some.query c.in-Some.place c.index_mut.result.now c.halt.new.self c.halt.result h
    (shape_of (the_view c.self.inside) c.self.inside.table c.self.invariant) (subst (λ s. ReceiverIs s c.args.key.now c.in-Some.query c.in-Some.place) (sym c.self.view_is) c.in-Some.ensures)
    (here c) c.halt.ensures (subst (λ s. Stands s h) (sym c.self.view_is) stands)
