use Rattle.std.proofs.Common.{◌+◌, ◌%◌, length, refl, Option, Some, ap, sym, ◌∙◌, subst, arith}
use Rattle.std.proofs.lemmas.Option.{slice_get_read}
use Rattle.ic_recvring.specs.Ring.{Packet, IsRing, front_of}
use Rattle.ic_recvring.proofs.Slots.{place_within}
use Rattle.ic_recvring.proofs.Sound.{is_ring, deep, front_none, front_read}
use Rattle.ic_recvring.proofs.ring.RecvRing.front.Goals as goal

abbrev some_of : Packet → Option Packet
some_of p = Some p

pub returns-then-self-clause-value : goal.returns-then-self-clause-value
returns-then-self-clause-value c = let s = c.self.inside in sym (ap front_of (sym c.self.view_is) ∙ front_none s.depth s.packet s.consumed s.run s.top s.slots.items c.self.invariant (omega arith))

pub returns-then-self-clause-ring : goal.returns-then-self-clause-ring
returns-then-self-clause-ring c = let s = c.self.inside in subst IsRing c.self.view_is (is_ring s.depth s.packet s.consumed s.run s.top s.slots.items c.self.invariant)

pub nonzero_rem-seq : goal.nonzero_rem-seq
nonzero_rem-seq c = let s = c.self.inside in let pos = deep s.depth s.packet s.consumed s.run s.top s.slots.items c.self.invariant (omega arith) in omega (arith, pos)

pub index-slot-requires : goal.index-slot-requires
index-slot-requires c =
    let s = c.self.inside in
    let lt = place_within s.slots.items s.depth (s.consumed + 1) c.self.invariant.count (deep s.depth s.packet s.consumed s.run s.top s.slots.items c.self.invariant c.if-self.false) in
    omega (arith, lt, s.slots.ok.0)

pub returns-clause-value : goal.returns-clause-value
returns-clause-value c =
    let s = c.self.inside in
    let lt = place_within s.slots.items s.depth (s.consumed + 1) c.self.invariant.count (deep s.depth s.packet s.consumed s.run s.top s.slots.items c.self.invariant c.if-self.false) in
    let slot = c.index-slot.result.now in
    let is = slice_get_read s.slots.items (length s.slots.items) ((s.consumed + 1) % s.depth) slot refl lt c.index-slot.ensures in
    ap (λ l. some_of (record { seq = s.consumed + 1; last = slot.last; payload = l })) c.as_slice.ensures.value
    ∙ sym (front_read s.depth s.packet s.consumed s.run s.top s.slots.items c.self.invariant slot c.if-self.false is)
    ∙ ap front_of c.self.view_is

pub returns-clause-ring : goal.returns-clause-ring
returns-clause-ring c = let s = c.self.inside in subst IsRing c.self.view_is (is_ring s.depth s.packet s.consumed s.run s.top s.slots.items c.self.invariant)
