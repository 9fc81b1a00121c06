use Rattle.std.proofs.Common.{◌≡◌, ◌+◌, ◌%◌, false, refl, ap, sym, ◌∙◌, subst, arith, IsSome, slice_get}
use Rattle.ic_recvring.specs.declared.slot.Slot.{Slot}
use Rattle.ic_recvring.specs.Ring.{Ring, stored_of, front_of, after_front}
use Rattle.ic_recvring.proofs.Slots.{place_within}
use Rattle.ic_recvring.proofs.Sound.{deep, front_some, front_first, slot_room, ring_next, stored_next, sound_next}
use Rattle.ic_recvring.proofs.ring.RecvRing.consume.Goals as goal

pub overflow_add-seq : goal.overflow_add-seq
overflow_add-seq c =
    let s = c.self.inside in
    let lt = front_some s.depth s.packet s.consumed s.run s.top s.slots.items c.self.invariant (subst (λ (t : Ring). IsSome (front_of t)) (sym c.self.view_is) c.requires) in
    omega (arith, lt)

pub nonzero_rem-place : goal.nonzero_rem-place
nonzero_rem-place c =
    let s = c.self.inside in
    let lt = front_some s.depth s.packet s.consumed s.run s.top s.slots.items c.self.invariant (subst (λ (t : Ring). IsSome (front_of t)) (sym c.self.view_is) c.requires) in
    deep s.depth s.packet s.consumed s.run s.top s.slots.items c.self.invariant lt

pub index_mut-requires : goal.index_mut-requires
index_mut-requires c =
    let s = c.self.inside in
    let lt = front_some s.depth s.packet s.consumed s.run s.top s.slots.items c.self.invariant (subst (λ (t : Ring). IsSome (front_of t)) (sym c.self.view_is) c.requires) in
    let within = place_within s.slots.items s.depth (s.consumed + 1) c.self.invariant.count (deep s.depth s.packet s.consumed s.run s.top s.slots.items c.self.invariant lt) in
    omega (arith, within, s.slots.ok.0)

pub invariant_of-self : goal.invariant_of-self
invariant_of-self c =
    let s = c.self.inside in
    let old = c.index_mut.result.now in
    let free : Slot = record { kept = false; last = old.last; payload = old.payload } in
    let lt = front_some s.depth s.packet s.consumed s.run s.top s.slots.items c.self.invariant (subst (λ (t : Ring). IsSome (front_of t)) (sym c.self.view_is) c.requires) in
    let within = place_within s.slots.items s.depth (s.consumed + 1) c.self.invariant.count (deep s.depth s.packet s.consumed s.run s.top s.slots.items c.self.invariant lt) in
    sound_next s.depth s.packet s.consumed s.run s.top s.slots.items c.self.invariant free refl
    (slot_room s.depth s.packet s.consumed s.run s.top s.slots.items c.self.invariant ((s.consumed + 1) % s.depth) old within c.index_mut.ensures.value) lt

pub returns-clause-front : goal.returns-clause-front
returns-clause-front c =
    let s = c.self.inside in
    let lt = front_some s.depth s.packet s.consumed s.run s.top s.slots.items c.self.invariant (subst (λ (t : Ring). IsSome (front_of t)) (sym c.self.view_is) c.requires) in
    subst (λ (t : Ring). front_of t ≡ slice_get t.kept 0) c.self.view_is (front_first s.depth s.packet s.consumed s.run s.top s.slots.items c.self.invariant lt).3

pub returns-clause-rest : goal.returns-clause-rest
returns-clause-rest c =
    let s = c.self.inside in
    let old = c.index_mut.result.now in
    let free : Slot = record { kept = false; last = old.last; payload = old.payload } in
    let lt = front_some s.depth s.packet s.consumed s.run s.top s.slots.items c.self.invariant (subst (λ (t : Ring). IsSome (front_of t)) (sym c.self.view_is) c.requires) in
    ring_next s.depth s.packet s.consumed s.run s.top s.slots.items c.self.invariant free refl lt ∙ ap after_front c.self.view_is

pub returns-clause-stored : goal.returns-clause-stored
returns-clause-stored c =
    let s = c.self.inside in
    let old = c.index_mut.result.now in
    let free : Slot = record { kept = false; last = old.last; payload = old.payload } in
    let lt = front_some s.depth s.packet s.consumed s.run s.top s.slots.items c.self.invariant (subst (λ (t : Ring). IsSome (front_of t)) (sym c.self.view_is) c.requires) in
    ap stored_of (ring_next s.depth s.packet s.consumed s.run s.top s.slots.items c.self.invariant free refl lt) ∙ stored_next s.depth s.packet s.consumed s.run s.top s.slots.items c.self.invariant lt ∙ ap stored_of c.self.view_is
