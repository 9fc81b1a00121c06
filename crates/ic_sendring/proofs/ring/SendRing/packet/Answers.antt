use Rattle.std.proofs.Common.{◌≡◌, ℕ, zero, suc, ◌+◌, ◌-◌, ◌<◌, List, [], ◌∷◌, length, Option, Some, None, slice_get, sym, ap, ◌∙◌, arith}
use Rattle.ic_sendring.specs.declared.slot.Slot.{Slot}
use Rattle.ic_sendring.specs.Ring.{Packet, Ring, packet_at}
use Rattle.ic_sendring.specs.Views.{packet_of, packets_of}
use Rattle.ic_sendring.proofs.Seen.{kept_is, kept_past, none_at}
use Rattle.ic_sendring.proofs.Block.{length-packets, lent_is, read_there}
use Rattle.ic_sendring.proofs.Sound.{follow_of, within_of, slot_in}
use Rattle.ic_sendring.proofs.ring.SendRing.packet.Goals as goal

abbrev some_of : Packet → Option Packet
some_of p = Some p

pub returns-then-seq-self-clause-value : goal.returns-then-seq-self-clause-value
returns-then-seq-self-clause-value c =
    let s = c.self.inside in
    let packets = packets_of s.block.items s.slots.items in
    let long = length-packets s.block.items s.slots.items in
    let low = (within_of s.depth s.packet s.sealed s.sent s.slots.items _ s.block.items _ c.self.invariant).0 in
    let from = s.sealed + 1 - length packets in
    sym (kept_past from s.sent c.args.seq packets (follow_of s.depth s.packet s.sealed s.sent s.slots.items _ s.block.items _ c.self.invariant) (omega (arith, c.if-seq-self.true)) (omega (arith, c.if-seq-self.true, low, long)))
    ∙ ap (λ (t : Ring). packet_at c.args.seq t) c.self.view_is

pub returns-then-behind-len-clause-value : goal.returns-then-behind-len-clause-value
returns-then-behind-len-clause-value c =
    let s = c.self.inside in
    let packets = packets_of s.block.items s.slots.items in
    let long = length-packets s.block.items s.slots.items in
    let low = (within_of s.depth s.packet s.sealed s.sent s.slots.items _ s.block.items _ c.self.invariant).0 in
    let from = s.sealed + 1 - length packets in
    let before : c.args.seq < from = omega (arith, c.if-behind-len.true, c.len.ensures.len, low, long, c.if-seq-self.false) in
    sym (none_at from s.sent c.args.seq packets (follow_of s.depth s.packet s.sealed s.sent s.slots.items _ s.block.items _ c.self.invariant) before)
    ∙ ap (λ (t : Ring). packet_at c.args.seq t) c.self.view_is

pub lend-requires : goal.lend-requires
lend-requires c =
    let s = c.self.inside in
    let inside = slot_in s.depth s.packet s.sealed s.sent s.slots.items _ s.block.items _ c.self.invariant _ c.in-Some.slot.now (sym c.in-Some.ensures) in
    let same = ap length c.as_slice.ensures.value in
    omega (arith, inside.within, same)

pub returns-in-Some-clause-value : goal.returns-in-Some-clause-value
returns-in-Some-clause-value c =
    let s = c.self.inside in
    let slot = c.in-Some.slot.now in
    let packets = packets_of s.block.items s.slots.items in
    let long = length-packets s.block.items s.slots.items in
    let low = (within_of s.depth s.packet s.sealed s.sent s.slots.items _ s.block.items _ c.self.invariant).0 in
    let from = s.sealed + 1 - length packets in
    let place : c.len-2.result - 1 - (s.sealed - c.args.seq) ≡ c.args.seq - from = omega (arith, c.if-behind-len.false, c.len.ensures.len, c.len-2.ensures.len, low, long, c.if-seq-self.false) in
    let there = read_there s.block.items s.slots.items (c.args.seq - from) slot (ap (slice_get s.slots.items) (sym place) ∙ sym c.in-Some.ensures) in
    ap some_of (lent_is s.block.items c.as_slice.result.now slot c.lend.result.seq c.lend.result.last c.lend.result.payload.now c.lend.ensures.seq c.lend.ensures.last c.lend.ensures.payload c.as_slice.ensures.value)
    ∙ sym (kept_is from s.sent c.args.seq packets (packet_of s.block.items slot) (follow_of s.depth s.packet s.sealed s.sent s.slots.items _ s.block.items _ c.self.invariant)
    (omega (arith, c.if-behind-len.false, c.len.ensures.len, long, c.if-seq-self.false)) there)
    ∙ ap (λ (t : Ring). packet_at c.args.seq t) c.self.view_is

pub returns-in-None-clause-value : goal.returns-in-None-clause-value
returns-in-None-clause-value c =
    let s = c.self.inside in
    let place = c.len-2.result - 1 - (s.sealed - c.args.seq) in
    let lt : place < length s.slots.items = omega (arith, c.if-behind-len.false, c.len.ensures.len, c.len-2.ensures.len) in
    absurd (there s.slots.items place lt (sym c.in-None.ensures))
  where
    there : (slots : List Slot) (i : ℕ) → i < length slots → slice_get slots i ≡ None → ⊥
    there [] i lt is = omega (arith, lt)
    there (x ∷ slots) zero lt is = let bad : Some x ≡ None = is in absurd (cc)
    there (x ∷ slots) (suc i) lt is = there slots i (omega (arith, lt)) is
