use Rattle.std.proofs.Common.{◌≡◌, ◌+◌, Some, IsSome, sym, ap, subst, arith}
use Rattle.ic_sendring.specs.Ring.{Ring, Packet, next_of, with_sent}
use Rattle.ic_sendring.specs.Views.{packets_of, ring_of}
use Rattle.ic_sendring.proofs.Seen.{next_within, marked_next}
use Rattle.ic_sendring.proofs.Block.{length-packets}
use Rattle.ic_sendring.proofs.Sound.{follow_of, within_of, sound_sent}
use Rattle.ic_sendring.proofs.ring.SendRing.sent.Goals as goal

pub overflow_add-self : goal.overflow_add-self
overflow_add-self c =
    let s = c.self.inside in
    let next = next_within s.sent (packets_of s.block.items s.slots.items) (subst (λ (t : Ring). IsSome (next_of t)) (sym c.self.view_is) c.requires) in
    let long = length-packets s.block.items s.slots.items in
    let low = (within_of s.depth s.packet s.sealed s.sent s.slots.items _ s.block.items _ c.self.invariant).0 in
    omega (arith, next, long, low)

pub invariant_of-self : goal.invariant_of-self
invariant_of-self c =
    let s = c.self.inside in
    let next = next_within s.sent (packets_of s.block.items s.slots.items) (subst (λ (t : Ring). IsSome (next_of t)) (sym c.self.view_is) c.requires) in
    let long = length-packets s.block.items s.slots.items in
    sound_sent s.depth s.packet s.sealed s.sent s.slots.items _ s.block.items _ c.self.invariant (s.sent + 1) (omega (arith, next, long))

pub returns : goal.returns
returns c =
    let s = c.self.inside in
    let packets = packets_of s.block.items s.slots.items in
    record {
      next = subst (λ (t : Ring). (p : Packet) → next_of t ≡ Some p → ring_of s.depth s.packet s.sealed (s.sent + 1) packets ≡ record t { kept = with_sent p.seq t.kept }) c.self.view_is
          (λ p found. ap (λ l. record { sealed = s.sealed; kept = l; depth = s.depth; packet = s.packet })
          (sym (marked_next _ s.sent packets p (follow_of s.depth s.packet s.sealed s.sent s.slots.items _ s.block.items _ c.self.invariant) found)));
    }
