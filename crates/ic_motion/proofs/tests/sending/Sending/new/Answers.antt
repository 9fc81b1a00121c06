use Rattle.std.proofs.Common.{ℕ, ℤ, List, map, sym, ap, ◌∙◌, subst}
use Rattle.ic_motion.specs.Sending.{Sender, fresh_target, receivers_of, SendsToEach}
use Rattle.ic_motion.specs.Scripts.{script_ends}
use Rattle.ic_motion.proofs.Scripts.{sends_both}
use Rattle.ic_motion.proofs.tests.sending.Sending.new.Goals as goal

pub invariant_of-result : goal.invariant_of-result
invariant_of-result c =
    let value = c.in_ok-out.ensures.value in
    let receivers = ap (λ (m : Sender). receivers_of m.targets) value ∙ ap (λ (l : List ℤ). receivers_of (map fresh_target l)) c.in_ok-both.ensures in (
      subst (λ (n : ℕ). SendsToEach script_ends n (receivers_of c.in_ok-out.out.targets)) (sym (ap (λ (m : Sender). m.motion) value)) (subst (SendsToEach script_ends 1) (sym receivers) sends_both),
      ap (λ (m : Sender). m.ending) value,
    )
