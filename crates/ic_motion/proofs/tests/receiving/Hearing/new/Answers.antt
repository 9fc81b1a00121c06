use Rattle.std.proofs.Common.{ℕ, ℤ, List, map, sym, ap, ◌∙◌, subst}
use Rattle.ic_motion.specs.Hearing.{Listener, fresh_lane, senders_of}
use Rattle.ic_motion.specs.Pulling.{Listens}
use Rattle.ic_motion.specs.Scripts.{script_ends}
use Rattle.ic_motion.proofs.Scripts.{hears_both}
use Rattle.ic_motion.proofs.tests.receiving.Hearing.new.Goals as goal

pub invariant_of-result : goal.invariant_of-result
invariant_of-result c =
    let value = c.in_ok-heard.ensures.value in
    let senders = ap (λ (m : Listener). senders_of m.lanes) value ∙ ap (λ (l : List ℤ). senders_of (map fresh_lane l)) c.in_ok-both.ensures in
    subst (λ (n : ℕ). Listens script_ends n (senders_of c.in_ok-heard.heard.lanes)) (sym (ap (λ (m : Listener). m.end.motion) value)) (subst (Listens script_ends 2) (sym senders) hears_both)
