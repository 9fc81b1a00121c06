use Rattle.std.proofs.Common.{◌≡◌, ℕ, ◌+◌, ◌*◌, ◌%◌, ◌<◌, ◌≤◌, ◌^◌, false, [], ◌∷◌, ◌++◌, length, vec_capacity, refl, sym, ap, ◌∙◌, inl, inr, subst, arith}
use Rattle.std.specs.List.{between}
use Rattle.circular_buffer.specs.Buffer.{Buffer}
use Rattle.std.proofs.lemmas.Bool.Decides.{leb_tells}
use Rattle.ic_sendring.specs.declared.slot.Slot.{Slot}
use Rattle.ic_sendring.specs.Ring.{Ring, room_of, next_packet}
use Rattle.ic_sendring.specs.Views.{packet_of, packets_of, kept_of, seen, ring_of}
use Rattle.ic_sendring.specs.Room.{IsSound}
use Rattle.ic_sendring.proofs.Seen.{seen-push}
use Rattle.ic_sendring.proofs.Block.{Fills, packet, length-packets}
use Rattle.ic_sendring.proofs.Sound.{long_of, within_of, packets_push, sound_sealed}
use Rattle.ic_sendring.proofs.ring.SendRing.seal.Goals as goal

pub returns-then-len-self : goal.returns-then-len-self
returns-then-len-self c =
    let s = c.self.inside in
    let long = long_of s.depth s.packet s.sealed s.sent s.slots.items _ s.block.items _ c.self.invariant in
    let high = (within_of s.depth s.packet s.sealed s.sent s.slots.items _ s.block.items _ c.self.invariant).1 in
    record { seals = (subst (λ (t : Ring). length t.kept ≡ t.depth) c.self.view_is (omega (arith, long, high, c.if-len-self.true, c.len.ensures.len)), refl) }

pub returns-in_default : goal.returns-in_default
returns-in_default c =
    let s = c.self.inside in
    let long = long_of s.depth s.packet s.sealed s.sent s.slots.items _ s.block.items _ c.self.invariant in
    let over : s.sealed + 1 ≡ 2 ^ 32 = elim (leb_tells (s.sealed + 2) (2 ^ 32)) [ inl w ↦ absurd (c.in_default.ensures (omega (arith, w.1))) | inr w ↦ omega (arith, w.1, c.self.invariant.ring.greatest) ] in
    record {
      seals = (
        subst (λ (t : Ring). length t.kept < t.depth) c.self.view_is (omega (arith, long, c.if-len-self.false, c.len.ensures.len)),
        subst (λ (t : Ring). t.sealed + 1 ≡ 2 ^ 32) c.self.view_is over,
        refl,
      );
    }

pub invariant_of-self : goal.invariant_of-self
invariant_of-self c =
    let s = c.self.inside in
    let room = c.saturating_sub-room.result in
    let slot : Slot = record { seq = c.in-Some.seq; last = c.args.last; at = (s.sealed % s.depth) * room; len = length c.args.payload.now } in
    let now = c.fill.new.block.items in
    let free : length s.slots.items < s.depth = omega (arith, c.if-len-self.false, c.len.ensures.len) in
    let short : length c.args.payload.now ≤ room_of s.packet = subst (λ (t : Ring). length c.args.payload.now ≤ room_of t.packet) (sym c.self.view_is) c.requires in
    let at : slot.at ≡ (s.sealed % s.depth) * room_of s.packet = ap (λ n. (s.sealed % s.depth) * n) c.saturating_sub-room.ensures in
    let fills : Fills slot.at (room_of s.packet) s.block.items now = record {
      before = c.fill.ensures.before;
      behind = subst (λ n. (a e : ℕ) → slot.at + n ≤ a → e ≤ length s.block.items → between a e now ≡ between a e s.block.items) c.saturating_sub-room.ensures c.fill.ensures.behind;
      longer = c.fill.ensures.longer;
    } in
    let bytes : length (packet_of now slot).payload ≤ room_of s.packet = (let same = ap length c.fill.ensures.here in omega (arith, same, short)) in
    subst (λ (b : Buffer Slot). IsSound s.depth s.packet c.in-Some.seq s.sent b.items b.capacity now (vec_capacity c.fill.new.block)) (sym c.push.ensures)
    (sound_sealed s.depth s.packet s.sealed s.sent s.slots.items _ s.block.items _ c.self.invariant slot now free c.in-Some.ensures.1 at fills _
    (omega (arith, c.in-Some.ensures.0, c.in-Some.ensures.1)) short (let end = c.fill.ensures.end in omega (arith, end, c.saturating_sub-room.ensures)) bytes c.fill.ensures.capacity)

pub returns : goal.returns
returns c =
    let s = c.self.inside in
    let room = c.saturating_sub-room.result in
    let slot : Slot = record { seq = c.in-Some.seq; last = c.args.last; at = (s.sealed % s.depth) * room; len = length c.args.payload.now } in
    let now = c.fill.new.block.items in
    let packets = packets_of s.block.items s.slots.items in
    let free : length s.slots.items < s.depth = omega (arith, c.if-len-self.false, c.len.ensures.len) in
    let at : slot.at ≡ (s.sealed % s.depth) * room_of s.packet = ap (λ n. (s.sealed % s.depth) * n) c.saturating_sub-room.ensures in
    let fills : Fills slot.at (room_of s.packet) s.block.items now = record {
      before = c.fill.ensures.before;
      behind = subst (λ n. (a e : ℕ) → slot.at + n ≤ a → e ≤ length s.block.items → between a e now ≡ between a e s.block.items) c.saturating_sub-room.ensures c.fill.ensures.behind;
      longer = c.fill.ensures.longer;
    } in
    let long = long_of s.depth s.packet s.sealed s.sent s.slots.items _ s.block.items _ c.self.invariant in
    let count = length-packets s.block.items s.slots.items in
    let view = ring_of s.depth s.packet s.sealed s.sent packets in
    let is_next : kept_of false (packet_of now slot) ≡ next_packet view c.args.payload.now c.args.last =
    ap (λ n. kept_of false (packet n c.args.last (between slot.at (slot.at + slot.len) now))) c.in-Some.ensures.1
    ∙ ap (λ l. kept_of false (packet (s.sealed + 1) c.args.last l)) c.fill.ensures.here in
    let kept_are : seen s.sent (packets_of now c.push.new.slots.items) ≡ seen s.sent packets ++ next_packet view c.args.payload.now c.args.last ∷ [] =
    ap (λ (b : Buffer Slot). seen s.sent (packets_of now b.items)) c.push.ensures
    ∙ ap (seen s.sent) (packets_push s.depth s.packet s.sealed s.sent s.slots.items _ s.block.items _ c.self.invariant slot now free c.in-Some.ensures.1 at fills)
    ∙ seen-push s.sent packets (packet_of now slot) (let le = c.self.invariant.sent_within in omega (arith, le, count))
    ∙ ap (λ k. seen s.sent packets ++ k ∷ []) is_next in
    let after : ring_of s.depth s.packet c.in-Some.seq s.sent (packets_of now c.push.new.slots.items) ≡ record view { sealed = s.sealed + 1; kept = view.kept ++ next_packet view c.args.payload.now c.args.last ∷ [] } =
    ap (λ n. record { sealed = n; kept = seen s.sent (packets_of now c.push.new.slots.items); depth = s.depth; packet = s.packet }) c.in-Some.ensures.1
    ∙ ap (λ l. record { sealed = s.sealed + 1; kept = l; depth = s.depth; packet = s.packet }) kept_are in
    record {
      seals = (
        subst (λ (t : Ring). length t.kept < t.depth) c.self.view_is (omega (arith, long, c.if-len-self.false, c.len.ensures.len)),
        subst (λ (t : Ring). t.sealed + 1 < 2 ^ 32) c.self.view_is c.in-Some.ensures.0,
        subst (λ (t : Ring). c.in-Some.seq ≡ t.sealed + 1) c.self.view_is c.in-Some.ensures.1,
        subst (λ (t : Ring). ring_of s.depth s.packet c.in-Some.seq s.sent (packets_of now c.push.new.slots.items) ≡ record t { sealed = t.sealed + 1; kept = t.kept ++ next_packet t c.args.payload.now c.args.last ∷ [] }) c.self.view_is after,
      );
    }
