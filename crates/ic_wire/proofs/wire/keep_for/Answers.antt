use Rattle.std.proofs.Common.{◌≡◌, Some, None, sym, ap, ◌∙◌, subst, slice_set}
use Rattle.ic_wire.specs.Wires.{Node, keeping}
use Rattle.ic_wire.specs.Copies.{AreTo}
use Rattle.ic_wire.specs.Inside.{listed, place_in}
use Rattle.ic_wire.proofs.Places.{here, nowhere, on_ok}
use Rattle.ic_wire.proofs.wire.keep_for.Goals as goal

pub returns-in_default-clause-ok : goal.returns-in_default-clause-ok
returns-in_default-clause-ok c =
    let none : place_in c.args.to c.args.nodes.now.items ≡ None = subst (λ nodes. place_in c.args.to nodes ≡ None) c.as_slice.ensures.value (sym c.place_of.ensures ∙ c.in_default.is) in
    sym ((nowhere c.args.to c.args.nodes.now.items none).changes (keeping (listed c.args.copies)))

pub returns-clause-ok : goal.returns-clause-ok
returns-clause-ok c =
    let found : place_in c.args.to c.args.nodes.now.items ≡ Some c.in-Some.place = subst (λ nodes. place_in c.args.to nodes ≡ Some c.in-Some.place) c.as_slice.ensures.value (sym c.place_of.ensures ∙ c.in-Some.is) in
    let node = c.index_mut-node.result.now in
    let changes = (here c.args.to c.args.nodes.now.items c.in-Some.place node found).changes (keeping (listed c.args.copies)) in
    on_ok c.keep.result c.keep.ensures.ok (λ kept.
    ap (slice_set c.args.nodes.now.items c.in-Some.place) (kept ∙ ap (keeping (listed c.args.copies)) c.index_mut-node.ensures.value) ∙ sym changes)

pub keep-requires : goal.keep-requires
keep-requires c =
    let found : place_in c.args.to c.args.nodes.now.items ≡ Some c.in-Some.place = subst (λ nodes. place_in c.args.to nodes ≡ Some c.in-Some.place) c.as_slice.ensures.value (sym c.place_of.ensures ∙ c.in-Some.is) in
    let at_is = (here c.args.to c.args.nodes.now.items c.in-Some.place c.index_mut-node.result.now found).at_is in
    subst (λ at. AreTo at (listed c.args.copies)) (sym (ap (λ (n : Node). n.at) c.index_mut-node.ensures.value ∙ at_is)) c.requires
