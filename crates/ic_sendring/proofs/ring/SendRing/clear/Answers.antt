use Rattle.std.proofs.Common.{◌≡◌, ◌≤◌, [], length, ap, ◌∙◌, subst, arith}
use Rattle.ic_sendring.specs.Ring.{Ring, behind}
use Rattle.ic_sendring.specs.Views.{packets_of, seen}
use Rattle.ic_sendring.proofs.Seen.{behind_none}
use Rattle.ic_sendring.proofs.ring.SendRing.clear.Goals as goal

pub returns : goal.returns
returns c =
    let s = c.self.inside in
    let kept = seen s.sent (packets_of s.block.items s.slots.items) in
    let low : length kept ≤ s.sealed = c.self.invariant.ring.least in
    let none : behind s.sealed kept ≡ [] = behind_none _ s.sealed kept c.self.invariant.ring.follow (omega (arith, low)) in
    c.acked-freed.ensures.kept ∙ ap (λ l. record c.args.self.now { kept = l }) (subst (λ (t : Ring). behind s.sealed t.kept ≡ []) c.self.view_is none)
