use Rattle.std.proofs.Common.{rules, ◌≡◌, ◌<◌, ◌≤◌, length, set, refl, ap, sym, ◌∙◌, subst, arith}
use Rattle.gd_net.specs.declared.network.Received.TheVariants.{Came}
use Rattle.gd_net.specs.Network.{Receives}
use Rattle.gd_net.specs.Inside.{AreStill, GivesNone, GivesNext}
use Rattle.gd_net.proofs.Queues.{stands}
use Rattle.gd_net.proofs.Calls.{seen, queues_next, gives_first, gives_none_here, gives_none_past, receives_as}
use Rattle.gd_net.proofs.network.Network.receive.Goals as goal
use Rattle.gd_net.proofs.network.Network.receive.Goals.{in-Some, in-None}

pub returns-then-place-len : goal.returns-then-place-len
returns-then-place-len c =
    let past : length c.self.inside.nodes.items ≤ c.place_of-place.result = search rules in
    let h : GivesNone c.none_for.result (AreStill c.place_of-place.result c.self.inside.nodes.items) =
    subst (λ l. GivesNone c.none_for.result (AreStill c.place_of-place.result l)) c.deref.ensures.value c.none_for.ensures in
    receives_as c.args.at (seen c.self.inside.drops c.self.inside.sent c.self.inside.nodes.items) c.args.self.now c.args.self.now c.none_for.result c.none_for.result c.self.view_is refl
    (subst (Receives c.args.at (seen c.self.inside.drops c.self.inside.sent c.self.inside.nodes.items) c.none_for.result) c.self.view_is
    (gives_none_past c.args.at c.self.inside.drops c.self.inside.sent c.place_of-place.result c.self.inside.nodes.items c.none_for.result c.place_of-place.ensures.value c.place_of-place.ensures.node c.self.invariant past h))

pub invariant_of-self : goal.invariant_of-self
invariant_of-self c =
    let within : c.place_of-place.result < length c.self.inside.nodes.items = search rules in
    queues_next c.self.inside.sent c.place_of-place.result c.self.inside.nodes.items c.index_mut-node.result.now c.next.new.self c.next.result c.self.invariant
    (stands c.self.inside.nodes.items c.place_of-place.result c.index_mut-node.result.now within c.index_mut-node.ensures.value) c.next.ensures

pub returns : goal.returns
returns c =
    let within : c.place_of-place.result < length c.self.inside.nodes.items = search rules in
    let old = seen c.self.inside.drops c.self.inside.sent c.self.inside.nodes.items in
    let new = seen c.self.inside.drops c.self.inside.sent (set c.self.inside.nodes.items c.place_of-place.result c.next.new.self) in
    elim c.match-next.branch [
      | in-Some w ↦
          receives_as c.args.at old c.args.self.now new (Came w.in-Some.datagram) c.match-next.result c.self.view_is w.result-is
          (gives_first c.args.at c.self.inside.drops c.self.inside.sent c.place_of-place.result c.self.inside.nodes.items c.index_mut-node.result.now c.next.new.self w.in-Some.datagram
          c.place_of-place.ensures.value c.place_of-place.ensures.node c.self.invariant
          (stands c.self.inside.nodes.items c.place_of-place.result c.index_mut-node.result.now within c.index_mut-node.ensures.value) w.in-Some.ensures)
      | in-None w ↦
          receives_as c.args.at old c.args.self.now new w.none_for-in-None.result c.match-next.result c.self.view_is w.result-is
          (gives_none_here c.args.at c.self.inside.drops c.self.inside.sent c.place_of-place.result c.self.inside.nodes.items c.index_mut-node.result.now c.next.new.self w.none_for-in-None.result
          c.place_of-place.ensures.value c.place_of-place.ensures.node c.self.invariant
          (stands c.self.inside.nodes.items c.place_of-place.result c.index_mut-node.result.now within c.index_mut-node.ensures.value) w.in-None.ensures
          (subst (λ l. GivesNone w.none_for-in-None.result (AreStill c.place_of-place.result l)) w.deref-in-None.ensures.value w.none_for-in-None.ensures))
    ]
