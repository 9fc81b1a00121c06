use Rattle.std.proofs.Common.{◌≡◌, ◌<◌, ◌≤◌, ◌%◌, ℕ, List, false, true, is_some, refl, ap, sym, ◌∙◌, subst, arith}
use Rattle.std.specs.List.{Contains}
use Rattle.ic_recvring.specs.declared.slot.Slot.{Slot}
use Rattle.ic_recvring.specs.Ring.{Ring, numbers, without}
use Rattle.ic_recvring.specs.Views.{packet_at}
use Rattle.ic_recvring.proofs.Slots.{place_within}
use Rattle.ic_recvring.proofs.Sound.{kept_from, top_low, slot_room, ring_without, sound_back}
use Rattle.ic_recvring.proofs.ring.RecvRing.take_back.Goals as goal

pub nonzero_rem-place : goal.nonzero_rem-place
nonzero_rem-place c =
    let s = c.self.inside in
    let found = kept_from s.depth s.packet s.consumed s.slots.items c.args.seq (subst (λ (t : Ring). Contains (numbers t.kept) c.args.seq) (sym c.self.view_is) c.requires) in
    omega (arith, found.0, found.1)

pub index_mut-requires : goal.index_mut-requires
index_mut-requires c =
    let s = c.self.inside in
    let found = kept_from s.depth s.packet s.consumed s.slots.items c.args.seq (subst (λ (t : Ring). Contains (numbers t.kept) c.args.seq) (sym c.self.view_is) c.requires) in
    let within = place_within s.slots.items s.depth c.args.seq c.self.invariant.count (omega (arith, found.0, found.1)) in
    omega (arith, within, s.slots.ok.0)

pub overflow_sub-seq : goal.overflow_sub-seq
overflow_sub-seq c =
    let s = c.self.inside in
    let found = kept_from s.depth s.packet s.consumed s.slots.items c.args.seq (subst (λ (t : Ring). Contains (numbers t.kept) c.args.seq) (sym c.self.view_is) c.requires) in
    omega (arith, found.0)

pub top_from-self-inside-requires-clause-top : goal.top_from-self-inside-requires-clause-top
top_from-self-inside-requires-clause-top c = let s = c.self.inside in top_low s.depth s.packet s.consumed s.run s.top s.slots.items c.self.invariant

pub invariant_of-self : goal.invariant_of-self
invariant_of-self c =
    let s = c.self.inside in
    let old = c.index_mut.result.now in
    let free : Slot = record { kept = false; last = old.last; payload = old.payload } in
    let there = subst (λ (t : Ring). Contains (numbers t.kept) c.args.seq) (sym c.self.view_is) c.requires in
    let found = kept_from s.depth s.packet s.consumed s.slots.items c.args.seq there in
    let within = place_within s.slots.items s.depth c.args.seq c.self.invariant.count (omega (arith, found.0, found.1)) in
    let most = c.top_from-self-inside.result in
    sound_back s.depth s.packet s.consumed s.run s.top s.slots.items c.self.invariant c.args.seq there free refl
    (slot_room s.depth s.packet s.consumed s.run s.top s.slots.items c.self.invariant (c.args.seq % s.depth) old within c.index_mut.ensures.value)
    c.min-self-inside.result most c.min-self-inside.ensures c.top_from-self-inside.ensures.low c.top_from-self-inside.ensures.within
    (subst (λ (l : List Slot). s.consumed < most → is_some (packet_at l s.depth most) ≡ true) c.as_slice.ensures.value c.top_from-self-inside.ensures.here)
    (subst (λ (l : List Slot). (k : ℕ) → most < k → k ≤ s.top → is_some (packet_at l s.depth k) ≡ false) c.as_slice.ensures.value c.top_from-self-inside.ensures.none)

pub returns : goal.returns
returns c =
    let s = c.self.inside in
    let old = c.index_mut.result.now in
    let free : Slot = record { kept = false; last = old.last; payload = old.payload } in
    let there = subst (λ (t : Ring). Contains (numbers t.kept) c.args.seq) (sym c.self.view_is) c.requires in
    ring_without s.depth s.packet s.consumed s.run s.top s.slots.items c.self.invariant c.args.seq there free refl ∙ ap (without c.args.seq) c.self.view_is
