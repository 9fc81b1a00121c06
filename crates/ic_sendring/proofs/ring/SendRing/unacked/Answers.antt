use Rattle.std.proofs.Common.{length, sym, ap, ◌∙◌, arith}
use Rattle.ic_sendring.specs.Ring.{Ring}
use Rattle.ic_sendring.proofs.Sound.{long_of, within_of}
use Rattle.ic_sendring.proofs.ring.SendRing.unacked.Goals as goal

pub overflow_cast-result : goal.overflow_cast-result
overflow_cast-result c =
    let s = c.self.inside in
    let low = (within_of s.depth s.packet s.sealed s.sent s.slots.items _ s.block.items _ c.self.invariant).0 in
    omega (arith, low, c.len.ensures.len, c.self.invariant.ring.greatest)

pub returns-clause-value : goal.returns-clause-value
returns-clause-value c =
    let s = c.self.inside in
    c.len.ensures.len ∙ sym (long_of s.depth s.packet s.sealed s.sent s.slots.items _ s.block.items _ c.self.invariant) ∙ ap (λ (t : Ring). length t.kept) c.self.view_is
