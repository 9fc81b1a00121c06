use Rattle.std.proofs.Common.{◌≡◌, ◌-◌, ◌<◌, drop, length, vec_capacity, sym, ap, ◌∙◌, subst, arith}
use Rattle.circular_buffer.specs.Buffer.{Buffer}
use Rattle.ic_sendring.specs.declared.slot.Slot.{Slot}
use Rattle.ic_sendring.specs.Ring.{Ring}
use Rattle.ic_sendring.specs.Views.{packets_of, seen}
use Rattle.ic_sendring.specs.Room.{IsSound}
use Rattle.ic_sendring.proofs.Sound.{long_of, sound_freed, packets_freed}
use Rattle.ic_sendring.proofs.ring.SendRing.free_first.Goals as goal

pub invariant_of-self : goal.invariant_of-self
invariant_of-self c =
    let s = c.self.inside in
    let long = long_of s.depth s.packet s.sealed s.sent s.slots.items _ s.block.items _ c.self.invariant in
    let some : 0 < length s.slots.items = (let kept = subst (λ (t : Ring). 0 < length t.kept) (sym c.self.view_is) c.requires in omega (arith, kept, long)) in
    subst (λ n. IsSound s.depth s.packet s.sealed n c.pop_front-freed.new.self.items c.pop_front-freed.new.self.capacity s.block.items (vec_capacity s.block)) (sym c.saturating_sub-self-inside.ensures)
    (subst (λ (b : Buffer Slot). IsSound s.depth s.packet s.sealed (s.sent - 1) b.items b.capacity s.block.items (vec_capacity s.block)) (sym c.pop_front-freed.ensures.items)
    (sound_freed s.depth s.packet s.sealed s.sent s.slots.items _ s.block.items _ c.self.invariant some))

pub returns : goal.returns
returns c =
    let s = c.self.inside in
    let kept : seen c.saturating_sub-self-inside.result (packets_of s.block.items c.pop_front-freed.new.self.items) ≡ drop 1 (seen s.sent (packets_of s.block.items s.slots.items)) =
    ap (λ n. seen n (packets_of s.block.items c.pop_front-freed.new.self.items)) c.saturating_sub-self-inside.ensures
    ∙ ap (λ (b : Buffer Slot). seen (s.sent - 1) (packets_of s.block.items b.items)) c.pop_front-freed.ensures.items
    ∙ packets_freed s.depth s.packet s.sealed s.sent s.slots.items _ s.block.items _ c.self.invariant in
    ap (λ l. record { sealed = s.sealed; kept = l; depth = s.depth; packet = s.packet }) kept ∙ ap (λ (t : Ring). record t { kept = drop 1 t.kept }) c.self.view_is
