use Rattle.std.proofs.Common.{◌≡◌, [], Some, None, IfSome, sym, ap, ◌∙◌, subst, slice_set}
use Rattle.ic_wire.specs.Wires.{Node, receiving, queue_of, answer_of}
use Rattle.ic_wire.specs.Inside.{place_in, first_of}
use Rattle.ic_wire.proofs.Places.{here, nowhere}
use Rattle.ic_wire.proofs.Receiving.{came, nothing_kept, none_after}
use Rattle.ic_wire.proofs.wire.receive_for.Goals as goal

pub returns-in_default-clause-new : goal.returns-in_default-clause-new
returns-in_default-clause-new c =
    let none : place_in c.args.at c.args.nodes.now.items ≡ None = subst (λ nodes. place_in c.args.at nodes ≡ None) c.as_slice.ensures.value (sym c.place_of.ensures ∙ c.in_default.is) in
    sym ((nowhere c.args.at c.args.nodes.now.items none).changes receiving)

pub returns-in_default-clause-answer : goal.returns-in_default-clause-answer
returns-in_default-clause-answer c =
    let none : place_in c.args.at c.args.nodes.now.items ≡ None = subst (λ nodes. place_in c.args.at nodes ≡ None) c.as_slice.ensures.value (sym c.place_of.ensures ∙ c.in_default.is) in
    c.nothing.ensures ∙ ap (λ nodes. answer_of c.args.at nodes []) c.as_slice-in_default.ensures.value
    ∙ ap (answer_of c.args.at c.args.nodes.now.items) (sym (nowhere c.args.at c.args.nodes.now.items none).queue)

pub returns-in-Some-receive-clause-new : goal.returns-in-Some-receive-clause-new
returns-in-Some-receive-clause-new c =
    let place : place_in c.args.at c.args.nodes.now.items ≡ Some c.in-Some.place = subst (λ nodes. place_in c.args.at nodes ≡ Some c.in-Some.place) c.as_slice.ensures.value (sym c.place_of.ensures ∙ c.in-Some.is) in
    ap (slice_set c.args.nodes.now.items c.in-Some.place) (c.receive.ensures.new ∙ ap receiving c.index_mut-node.ensures.value)
    ∙ sym ((here c.args.at c.args.nodes.now.items c.in-Some.place c.index_mut-node.result.now place).changes receiving)

pub returns-in-Some-receive-clause-answer : goal.returns-in-Some-receive-clause-answer
returns-in-Some-receive-clause-answer c =
    let place : place_in c.args.at c.args.nodes.now.items ≡ Some c.in-Some.place = subst (λ nodes. place_in c.args.at nodes ≡ Some c.in-Some.place) c.as_slice.ensures.value (sym c.place_of.ensures ∙ c.in-Some.is) in
    let queue = (here c.args.at c.args.nodes.now.items c.in-Some.place c.index_mut-node.result.now place).queue ∙ ap (λ (n : Node). n.kept) (sym c.index_mut-node.ensures.value) in
    sym (came c.args.at c.args.nodes.now.items (queue_of c.args.at c.args.nodes.now.items) c.in-Some-receive.datagram
    (ap first_of queue ∙ sym c.receive.ensures.first ∙ c.in-Some-receive.is))

pub returns-in-None-clause-new : goal.returns-in-None-clause-new
returns-in-None-clause-new c =
    let place : place_in c.args.at c.args.nodes.now.items ≡ Some c.in-Some.place = subst (λ nodes. place_in c.args.at nodes ≡ Some c.in-Some.place) c.as_slice.ensures.value (sym c.place_of.ensures ∙ c.in-Some.is) in
    ap (slice_set c.args.nodes.now.items c.in-Some.place) (c.receive.ensures.new ∙ ap receiving c.index_mut-node.ensures.value)
    ∙ sym ((here c.args.at c.args.nodes.now.items c.in-Some.place c.index_mut-node.result.now place).changes receiving)

pub returns-in-None-clause-answer : goal.returns-in-None-clause-answer
returns-in-None-clause-answer c =
    let place : place_in c.args.at c.args.nodes.now.items ≡ Some c.in-Some.place = subst (λ nodes. place_in c.args.at nodes ≡ Some c.in-Some.place) c.as_slice.ensures.value (sym c.place_of.ensures ∙ c.in-Some.is) in
    let there = here c.args.at c.args.nodes.now.items c.in-Some.place c.index_mut-node.result.now place in
    let queue = there.queue ∙ ap (λ (n : Node). n.kept) (sym c.index_mut-node.ensures.value) in
    let none : queue_of c.args.at c.args.nodes.now.items ≡ [] = nothing_kept (queue_of c.args.at c.args.nodes.now.items) (ap first_of queue ∙ sym c.receive.ensures.first ∙ c.in-None.is) in
    let new = c.as_slice-in-None.ensures.value ∙ ap (slice_set c.args.nodes.now.items c.in-Some.place) (c.receive.ensures.new ∙ ap receiving c.index_mut-node.ensures.value) ∙ sym (there.changes receiving) in
    c.nothing-in-None.ensures ∙ ap (λ nodes. answer_of c.args.at nodes []) new ∙ none_after c.args.at c.args.nodes.now.items none

pub returns-in-Some-receive-clause-to : goal.returns-in-Some-receive-clause-to
returns-in-Some-receive-clause-to c =
    let place : place_in c.args.at c.args.nodes.now.items ≡ Some c.in-Some.place = subst (λ nodes. place_in c.args.at nodes ≡ Some c.in-Some.place) c.as_slice.ensures.value (sym c.place_of.ensures ∙ c.in-Some.is) in
    let at_is = (here c.args.at c.args.nodes.now.items c.in-Some.place c.index_mut-node.result.now place).at_is in
    subst (λ r. IfSome r (λ d. d.to ≡ c.index_mut-node.result.now.at)) c.in-Some-receive.is c.receive.ensures.to ∙ ap (λ (n : Node). n.at) c.index_mut-node.ensures.value ∙ at_is
