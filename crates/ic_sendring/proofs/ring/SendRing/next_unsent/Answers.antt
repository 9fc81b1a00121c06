use Rattle.std.proofs.Common.{length, Option, Some, sym, ap, ◌∙◌, arith}
use Rattle.ic_sendring.specs.Ring.{Packet, Ring, next_of}
use Rattle.ic_sendring.specs.Views.{packet_of, packets_of}
use Rattle.ic_sendring.proofs.Seen.{next_is, next_none}
use Rattle.ic_sendring.proofs.Block.{lent_is, read_there, read_none}
use Rattle.ic_sendring.proofs.Sound.{slot_in}
use Rattle.ic_sendring.proofs.ring.SendRing.next_unsent.Goals as goal

abbrev some_of : Packet → Option Packet
some_of p = Some p

pub lend-requires : goal.lend-requires
lend-requires c =
    let s = c.self.inside in
    let inside = slot_in s.depth s.packet s.sealed s.sent s.slots.items _ s.block.items _ c.self.invariant s.sent c.in-Some.slot.now (sym c.in-Some.ensures) in
    let same = ap length c.as_slice.ensures.value in
    omega (arith, inside.within, same)

pub returns-in-Some-clause-value : goal.returns-in-Some-clause-value
returns-in-Some-clause-value c =
    let s = c.self.inside in
    let slot = c.in-Some.slot.now in
    ap some_of (lent_is s.block.items c.as_slice.result.now slot c.lend.result.seq c.lend.result.last c.lend.result.payload.now c.lend.ensures.seq c.lend.ensures.last c.lend.ensures.payload c.as_slice.ensures.value)
    ∙ sym (next_is s.sent (packets_of s.block.items s.slots.items) (packet_of s.block.items slot) (read_there s.block.items s.slots.items s.sent slot (sym c.in-Some.ensures)))
    ∙ ap (λ (t : Ring). next_of t) c.self.view_is

pub returns-in-None-clause-value : goal.returns-in-None-clause-value
returns-in-None-clause-value c =
    let s = c.self.inside in
    sym (next_none s.sent (packets_of s.block.items s.slots.items) (read_none s.block.items s.slots.items s.sent (sym c.in-None.ensures))) ∙ ap (λ (t : Ring). next_of t) c.self.view_is
