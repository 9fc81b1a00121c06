use Rattle.std.proofs.Common.{rules, ◌≡◌, ◌+◌, ◌<◌, length, Ok, inl, inr, ap, sym, ◌∙◌, subst, arith, refl}
use Rattle.std.proofs.lemmas.Result.{err_from_is_err_and}
use Rattle.gd_net.specs.declared.node.Node.{Node}
use Rattle.gd_net.proofs.Queues.{Stands, stands, queues_later}
use Rattle.gd_net.proofs.Calls.{seen, sent_lost, sent_kept, queues_kept, queues_same, seen_same}
use Rattle.gd_net.specs.Network.{after_send}
use Rattle.gd_net.proofs.network.Network.send.Goals as goal
use Rattle.gd_net.proofs.network.Network.send.Goals.{then-place-len-via-then-place-len, then-place-len-via-else-place-len+then-is_dropped}

pub invariant_of-self : goal.invariant_of-self
invariant_of-self c = queues_later 0 c.self.inside.sent c.in-Some.number c.self.inside.nodes.items (omega (arith, c.in-Some.ensures)) c.self.invariant

pub invariant_of-self-in_err-push_back : goal.invariant_of-self-in_err-push_back
invariant_of-self-in_err-push_back c =
    let within : c.place_of-place.result < length c.self.inside.nodes.items = search rules in
    queues_same c.self.inside.sent c.place_of-place.result c.self.inside.nodes.items c.index_mut-node.result.now (record { queue = c.push_back.new.self; has_one = c.index_mut-node.result.now.has_one }) c.self.invariant
    (stands c.self.inside.nodes.items c.place_of-place.result c.index_mut-node.result.now within c.index_mut-node.ensures.value) c.in_err-push_back.ensures.items

pub returns-in_err-push_back-clause-err : goal.returns-in_err-push_back-clause-err
returns-in_err-push_back-clause-err c =
    let within : c.place_of-place.result < length c.self.inside.nodes.items = search rules in
    let p = err_from_is_err_and c.from_residual.result c.from_residual.ensures.1 in
    rw p.1
    (seen_same c.self.inside.drops c.self.inside.sent c.place_of-place.result c.self.inside.nodes.items c.index_mut-node.result.now
    (record { queue = c.push_back.new.self; has_one = c.index_mut-node.result.now.has_one })
    (stands c.self.inside.nodes.items c.place_of-place.result c.index_mut-node.result.now within c.index_mut-node.ensures.value) c.in_err-push_back.ensures.items refl
    ∙ c.self.view_is)

pub invariant_of-self-2 : goal.invariant_of-self-2
invariant_of-self-2 c =
    let within : c.place_of-place.result < length c.self.inside.nodes.items = search rules in
    queues_kept c.self.inside.sent c.in-Some.number c.place_of-place.result c.self.inside.nodes.items c.index_mut-node.result.now
    (record { queue = c.push_back.new.self; has_one = c.index_mut-node.result.now.has_one }) c.args.datagram c.self.invariant
    (stands c.self.inside.nodes.items c.place_of-place.result c.index_mut-node.result.now within c.index_mut-node.ensures.value)
    (omega (arith, c.in-Some.ensures)) c.place_of-place.ensures.node c.in_ok-push_back.ensures.items

pub returns-clause-ok : goal.returns-clause-ok
returns-clause-ok c =
    let within : c.place_of-place.result < length c.self.inside.nodes.items = search rules in
    let node = c.index_mut-node.result.now in
    sent_kept c.self.inside.drops c.self.inside.sent c.in-Some.number c.place_of-place.result c.self.inside.nodes.items c.index_mut-node.result.now
    (record { queue = c.push_back.new.self; has_one = c.index_mut-node.result.now.has_one }) c.args.datagram c.self.invariant
    (stands c.self.inside.nodes.items c.place_of-place.result c.index_mut-node.result.now within c.index_mut-node.ensures.value)
    (omega (arith, c.in-Some.ensures)) c.place_of-place.ensures.value within (sym c.is_dropped.ensures ∙ c.if-is_dropped.false) c.in_ok-push_back.ensures.items refl
    ∙ ap (after_send c.args.datagram) c.self.view_is
