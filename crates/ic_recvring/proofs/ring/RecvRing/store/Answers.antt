use Rattle.std.proofs.Common.{◌≡◌, ℕ, ◌+◌, ◌<◌, ◌≤◌, ◌%◌, List, length, set, Bool, true, false, Option, Some, is_some, refl, ap, sym, ◌∙◌, subst, arith, inl, inr}
use Rattle.ic_recvring.specs.declared.slot.Slot.{Slot}
use Rattle.ic_recvring.specs.Numbers.{IsRunEnd}
use Rattle.ic_recvring.specs.Ring.{Ring, Packet, stored_of, room_of, placed, IsRepeated, IsNew, IsBeyond, HasRoom}
use Rattle.ic_recvring.specs.Views.{packet_in, packet_at, ring_of}
use Rattle.ic_recvring.proofs.Runs.{run_end_is_one}
use Rattle.ic_recvring.proofs.Slots.{place_within, read_kept}
use Rattle.ic_recvring.proofs.Sound.{run_low, is_new, kept_there, slot_room, ring_placed, sound_stored}
use Rattle.ic_recvring.proofs.ring.RecvRing.store.Goals as goal

abbrev packet : ℕ → Bool → List ℕ → Option Packet
packet n last payload = Some (record { seq = n; last = last; payload = payload })

packets : (n : ℕ) (l m : Bool) (xs ys : List ℕ) → l ≡ m → xs ≡ ys → packet n l xs ≡ packet n m ys
packets n l m xs ys same also = ap (λ b. packet n b xs) same ∙ ap (packet n m) also

pub returns-then-seq-self : goal.returns-then-seq-self
returns-then-seq-self c =
    let s = c.self.inside in
    record {
      stores = subst (λ (t : Ring). (r : ℕ) → IsRunEnd (stored_of t) r → IsRepeated t r c.args.seq × (t ≡ t)) c.self.view_is
          (λ r one. (inl (subst (λ e. c.args.seq ≤ e) (run_end_is_one (stored_of (ring_of s.depth s.packet s.consumed s.slots.items)) s.run r c.self.invariant.run_end one) c.if-seq-self.true), refl));
    }

pub overflow_sub-seq : goal.overflow_sub-seq
overflow_sub-seq c =
    let s = c.self.inside in
    let low = run_low s.depth s.packet s.consumed s.run s.top s.slots.items c.self.invariant in
    omega (arith, low, c.if-seq-self.false)

pub returns-then-seq-self-2 : goal.returns-then-seq-self-2
returns-then-seq-self-2 c =
    let s = c.self.inside in
    let p : Packet = record { seq = c.args.seq; last = c.args.last; payload = c.args.payload.now } in
    let low = run_low s.depth s.packet s.consumed s.run s.top s.slots.items c.self.invariant in
    record {
      stores = subst (λ (t : Ring). (r : ℕ) → IsRunEnd (stored_of t) r → IsNew t r c.args.seq × IsBeyond t p × (t ≡ t)) c.self.view_is
          (λ r one. (
            is_new s.depth s.packet s.consumed s.run s.top s.slots.items c.self.invariant c.args.seq r c.if-seq-self.false (λ near is. omega (arith, near, c.if-seq-self-2.true)) one,
            inl (omega (arith, c.if-seq-self-2.true, low, c.if-seq-self.false)),
            refl,
          ));
    }

pub returns-then-is_kept : goal.returns-then-is_kept
returns-then-is_kept c =
    let s = c.self.inside in
    let low = run_low s.depth s.packet s.consumed s.run s.top s.slots.items c.self.invariant in
    let test : c.is_kept.result ≡ is_some (packet_at s.slots.items s.depth c.args.seq) = c.is_kept.ensures ∙ ap (λ (l : List Slot). is_some (packet_at l s.depth c.args.seq)) c.as_slice.ensures.value in
    let there = kept_there s.depth s.packet s.consumed s.slots.items c.args.seq (omega (arith, low, c.if-seq-self.false)) (omega (arith, c.if-seq-self-2.false, low, c.if-seq-self.false)) (sym test ∙ c.if-is_kept.true) in
    record {
      stores = subst (λ (t : Ring). (r : ℕ) → IsRunEnd (stored_of t) r → IsRepeated t r c.args.seq × (t ≡ t)) c.self.view_is (λ r one. (inr there, refl));
    }

pub returns-then-payload-saturating_sub : goal.returns-then-payload-saturating_sub
returns-then-payload-saturating_sub c =
    let s = c.self.inside in
    let p : Packet = record { seq = c.args.seq; last = c.args.last; payload = c.args.payload.now } in
    let test : c.is_kept.result ≡ is_some (packet_at s.slots.items s.depth c.args.seq) = c.is_kept.ensures ∙ ap (λ (l : List Slot). is_some (packet_at l s.depth c.args.seq)) c.as_slice.ensures.value in
    let none : is_some (packet_at s.slots.items s.depth c.args.seq) ≡ false = sym test ∙ c.if-is_kept.false in
    record {
      stores = subst (λ (t : Ring). (r : ℕ) → IsRunEnd (stored_of t) r → IsNew t r c.args.seq × IsBeyond t p × (t ≡ t)) c.self.view_is
          (λ r one. (
            is_new s.depth s.packet s.consumed s.run s.top s.slots.items c.self.invariant c.args.seq r c.if-seq-self.false (λ near is. let bad : true ≡ false = sym is ∙ none in cc) one,
            inr (omega (arith, c.if-payload-saturating_sub.true, c.saturating_sub.ensures)),
            refl,
          ));
    }

pub nonzero_rem-place : goal.nonzero_rem-place
nonzero_rem-place c =
    let s = c.self.inside in
    let low = run_low s.depth s.packet s.consumed s.run s.top s.slots.items c.self.invariant in
    omega (arith, c.if-seq-self-2.false, low, c.if-seq-self.false)

pub index_mut-requires : goal.index_mut-requires
index_mut-requires c =
    let s = c.self.inside in
    let low = run_low s.depth s.packet s.consumed s.run s.top s.slots.items c.self.invariant in
    let within = place_within s.slots.items s.depth c.args.seq c.self.invariant.count (omega (arith, c.if-seq-self-2.false, low, c.if-seq-self.false)) in
    omega (arith, within, s.slots.ok.0)

pub keep-requires : goal.keep-requires
keep-requires c =
    let s = c.self.inside in
    let low = run_low s.depth s.packet s.consumed s.run s.top s.slots.items c.self.invariant in
    let within = place_within s.slots.items s.depth c.args.seq c.self.invariant.count (omega (arith, c.if-seq-self-2.false, low, c.if-seq-self.false)) in
    let room = slot_room s.depth s.packet s.consumed s.run s.top s.slots.items c.self.invariant (c.args.seq % s.depth) c.index_mut.result.now within c.index_mut.ensures.value in
    omega (arith, room.0, c.if-payload-saturating_sub.false, c.saturating_sub.ensures)

pub invariant_of-self : goal.invariant_of-self
invariant_of-self c =
    let s = c.self.inside in
    let p : Packet = record { seq = c.args.seq; last = c.args.last; payload = c.args.payload.now } in
    let full = c.keep.new.slot in
    let low = run_low s.depth s.packet s.consumed s.run s.top s.slots.items c.self.invariant in
    let within = place_within s.slots.items s.depth c.args.seq c.self.invariant.count (omega (arith, c.if-seq-self-2.false, low, c.if-seq-self.false)) in
    let room = slot_room s.depth s.packet s.consumed s.run s.top s.slots.items c.self.invariant (c.args.seq % s.depth) c.index_mut.result.now within c.index_mut.ensures.value in
    let test : c.is_kept.result ≡ is_some (packet_at s.slots.items s.depth c.args.seq) = c.is_kept.ensures ∙ ap (λ (l : List Slot). is_some (packet_at l s.depth c.args.seq)) c.as_slice.ensures.value in
    let end = c.run_on-self-inside.result in
    let most = c.max-self-inside.result in
    let short : length full.payload.items ≤ room_of s.packet = (let same = ap length c.keep.ensures.payload in omega (arith, same, c.if-payload-saturating_sub.false, c.saturating_sub.ensures)) in
    let holds : packet_in c.args.seq full ≡ Some p = read_kept c.args.seq full c.keep.ensures.kept ∙ packets c.args.seq full.last c.args.last full.payload.items c.args.payload.now c.keep.ensures.last c.keep.ensures.payload in
    sound_stored s.depth s.packet s.consumed s.run s.top s.slots.items c.self.invariant c.args.seq p full refl holds c.if-seq-self.false (omega (arith, c.if-seq-self-2.false, low, c.if-seq-self.false)) (sym test ∙ c.if-is_kept.false)
    (omega (arith, room.0, c.keep.ensures.capacity), short) end most c.max-self-inside.ensures c.run_on-self-inside.ensures.up c.run_on-self-inside.ensures.within
    (subst (λ (l : List Slot). (k : ℕ) → s.run < k → k ≤ end → is_some (packet_at l s.depth k) ≡ true) c.as_slice-2.ensures.value c.run_on-self-inside.ensures.run)
    (subst (λ (l : List Slot). end < most → is_some (packet_at l s.depth (end + 1)) ≡ false) c.as_slice-2.ensures.value c.run_on-self-inside.ensures.end)

pub returns : goal.returns
returns c =
    let s = c.self.inside in
    let p : Packet = record { seq = c.args.seq; last = c.args.last; payload = c.args.payload.now } in
    let full = c.keep.new.slot in
    let low = run_low s.depth s.packet s.consumed s.run s.top s.slots.items c.self.invariant in
    let near : c.args.seq ≤ s.consumed + s.depth = omega (arith, c.if-seq-self-2.false, low, c.if-seq-self.false) in
    let test : c.is_kept.result ≡ is_some (packet_at s.slots.items s.depth c.args.seq) = c.is_kept.ensures ∙ ap (λ (l : List Slot). is_some (packet_at l s.depth c.args.seq)) c.as_slice.ensures.value in
    let none : is_some (packet_at s.slots.items s.depth c.args.seq) ≡ false = sym test ∙ c.if-is_kept.false in
    let holds : packet_in c.args.seq full ≡ Some p = read_kept c.args.seq full c.keep.ensures.kept ∙ packets c.args.seq full.last c.args.last full.payload.items c.args.payload.now c.keep.ensures.last c.keep.ensures.payload in
    let after = ring_placed s.depth s.packet s.consumed s.run s.top s.slots.items c.self.invariant c.args.seq p full refl holds c.if-seq-self.false near none in
    record {
      stores = subst (λ (t : Ring). (r : ℕ) → IsRunEnd (stored_of t) r → IsNew t r c.args.seq × HasRoom t p × (ring_of s.depth s.packet s.consumed (set s.slots.items (c.args.seq % s.depth) full) ≡ record t { kept = placed p t.kept })) c.self.view_is
          (λ r one. (
            is_new s.depth s.packet s.consumed s.run s.top s.slots.items c.self.invariant c.args.seq r c.if-seq-self.false (λ near is. let bad : true ≡ false = sym is ∙ none in cc) one,
            (near, omega (arith, c.if-payload-saturating_sub.false, c.saturating_sub.ensures)),
            after,
          ));
    }
