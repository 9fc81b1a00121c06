use Rattle.std.proofs.Common.{◌≡◌, [], ◌∷◌, ◌++◌, length, Some, ap, sym, ◌∙◌, subst, slice_get, slice_index_or, arith}
use Rattle.std.proofs.lemmas.Option.{slice_get_within}
use Rattle.std.specs.Prelude.{OnErr}
use Rattle.ic_hub.specs.Hubbing.{Hubbing, Living, IsHub, IsOfHub, place_in}
use Rattle.ic_hub.specs.Standing.{Stands}
use Rattle.ic_hub.specs.Entries.{put_entry}
use Rattle.ic_hub.proofs.Places.{all_at}
use Rattle.ic_hub.proofs.Shape.{shape_of, hub_with}
use Rattle.ic_hub.proofs.Moving.{with_query}
use Rattle.ic_hub.proofs.Putting.{at_index, put_stands, put_unknown, finds_none, put_keeps, put_refused, chunk_least, fits_all}
use Rattle.ic_hub.proofs.hub.Hub.put_chunk.Goals as goal

pub returns-in_default-clause-stands : goal.returns-in_default-clause-stands
returns-in_default-clause-stands c h stands =
    let is = subst (λ (s : Hubbing). IsHub s c.self.inside.table) c.self.view_is c.self.invariant in
    put_unknown c.args.self.now h c.args.key.now c.args.chunk.now (shape_of c.args.self.now c.self.inside.table is) stands (finds_none c.args.self.now c.args.key.now c.sender_of.result c.sender_of.ensures c.in_default.not-Some) c.requires.chunk

pub index_mut-requires : goal.index_mut-requires
index_mut-requires c =
    let within = slice_get_within c.args.self.now.live c.in-Some.query c.in-Some.ensures.living c.in-Some.ensures.live in
    let live = ap (λ (s : Hubbing). length s.live) c.self.view_is in
    omega (arith, within, live, c.self.inside.live.ok.0)

pub put-requires-clause-here : goal.put-requires-clause-here
put-requires-clause-here c =
    let live : c.args.self.now.live ≡ c.self.inside.live.items = ap (λ (s : Hubbing). s.live) (sym c.self.view_is) in
    let found = c.in-Some.ensures in
    let less = slice_get_within c.args.self.now.live c.in-Some.query found.living found.live in
    let here = at_index c.args.self.now.live c.in-Some.query c.index_mut.result.now less (c.index_mut.ensures.value ∙ ap (λ xs. slice_index_or xs c.in-Some.query c.index_mut.result.now) (sym live)) in
    let both : Some found.living ≡ Some c.index_mut.result.now = sym found.live ∙ here in
    let same : found.living ≡ c.index_mut.result.now = cc in
    slice_get_within c.index_mut.result.now.senders c.in-Some.place found.sender (ap (λ (l : Living). slice_get l.senders c.in-Some.place) (sym same) ∙ found.here)

pub put-requires-clause-least : goal.put-requires-clause-least
put-requires-clause-least c = chunk_least (place_in c.args.self.now) c.args.chunk.now c.requires.chunk

pub put-requires-clause-most : goal.put-requires-clause-most
put-requires-clause-most c =
    let is = subst (λ (s : Hubbing). IsHub s c.self.inside.table) c.self.view_is c.self.invariant in
    let live : c.args.self.now.live ≡ c.self.inside.live.items = ap (λ (s : Hubbing). s.live) (sym c.self.view_is) in
    let found = c.in-Some.ensures in
    let less = slice_get_within c.args.self.now.live c.in-Some.query found.living found.live in
    let here = at_index c.args.self.now.live c.in-Some.query c.index_mut.result.now less (c.index_mut.ensures.value ∙ ap (λ xs. slice_index_or xs c.in-Some.query c.index_mut.result.now) (sym live)) in
    fits_all (place_in c.args.self.now) c.args.self.now.tick c.index_mut.result.now c.args.chunk.now (all_at (IsOfHub (place_in c.args.self.now) c.args.self.now.tick) c.args.self.now.live c.in-Some.query c.index_mut.result.now is.each here) c.requires.chunk

pub invariant_of-self : goal.invariant_of-self
invariant_of-self c =
    let is = subst (λ (s : Hubbing). IsHub s c.self.inside.table) c.self.view_is c.self.invariant in
    let live : c.args.self.now.live ≡ c.self.inside.live.items = ap (λ (s : Hubbing). s.live) (sym c.self.view_is) in
    let found = c.in-Some.ensures in
    let less = slice_get_within c.args.self.now.live c.in-Some.query found.living found.live in
    let here = at_index c.args.self.now.live c.in-Some.query c.index_mut.result.now less (c.index_mut.ensures.value ∙ ap (λ xs. slice_index_or xs c.in-Some.query c.index_mut.result.now) (sym live)) in
    let of_hub = all_at (IsOfHub (place_in c.args.self.now) c.args.self.now.tick) c.args.self.now.live c.in-Some.query c.index_mut.result.now is.each here in
    let keeps = put_keeps (place_in c.args.self.now) c.args.self.now.tick c.in-Some.place _ c.index_mut.result.now c.put.new.self c.put.result of_hub c.put.ensures in
    subst (λ (s : Hubbing). IsHub (with_query s c.in-Some.query c.put.new.self) c.self.inside.table) (sym c.self.view_is)
    (hub_with c.args.self.now c.self.inside.table c.in-Some.query c.index_mut.result.now c.put.new.self is here keeps.number keeps.ends keeps.of_hub)

pub returns-clause-err : goal.returns-clause-err
returns-clause-err c =
    let live : c.args.self.now.live ≡ c.self.inside.live.items = ap (λ (s : Hubbing). s.live) (sym c.self.view_is) in
    let found = c.in-Some.ensures in
    let less = slice_get_within c.args.self.now.live c.in-Some.query found.living found.live in
    let here = at_index c.args.self.now.live c.in-Some.query c.index_mut.result.now less (c.index_mut.ensures.value ∙ ap (λ xs. slice_index_or xs c.in-Some.query c.index_mut.result.now) (sym live)) in
    subst (λ (s : Hubbing). OnErr c.put.result (s ≡ c.args.self.now)) (ap (λ (s : Hubbing). with_query s c.in-Some.query c.put.new.self) (sym c.self.view_is))
    (put_refused c.args.self.now c.in-Some.query c.in-Some.place _ c.index_mut.result.now c.put.new.self c.put.result here c.put.ensures)

pub returns-clause-stands : goal.returns-clause-stands
returns-clause-stands c h stands =
    let is = subst (λ (s : Hubbing). IsHub s c.self.inside.table) c.self.view_is c.self.invariant in
    let live : c.args.self.now.live ≡ c.self.inside.live.items = ap (λ (s : Hubbing). s.live) (sym c.self.view_is) in
    let found = c.in-Some.ensures in
    let less = slice_get_within c.args.self.now.live c.in-Some.query found.living found.live in
    let here = at_index c.args.self.now.live c.in-Some.query c.index_mut.result.now less (c.index_mut.ensures.value ∙ ap (λ xs. slice_index_or xs c.in-Some.query c.index_mut.result.now) (sym live)) in
    subst (λ (s : Hubbing). Stands s (h ++ put_entry c.args.key.now c.args.chunk.now c.put.result ∷ [])) (ap (λ (s : Hubbing). with_query s c.in-Some.query c.put.new.self) (sym c.self.view_is))
    (put_stands c.args.self.now h c.args.key.now c.args.chunk.now c.in-Some.query c.in-Some.place c.index_mut.result.now c.put.new.self c.put.result (shape_of c.args.self.now c.self.inside.table is) stands found here c.put.ensures c.requires.chunk)
