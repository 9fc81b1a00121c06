use Rattle.std.proofs.Common.{◌≡◌, ℕ, ◌<◌, length, List, Some, false, sym, ap, ◌∙◌, subst, arith}
use Rattle.ic_base.specs.declared.port.PortAsk.TheVariants.{Finish}
use Rattle.std.specs.Prelude.{IfErr}
use Rattle.ic_base.specs.Ports.{did, logged, MayRefusePut}
use Rattle.ic_motion.specs.Sending.{Target, is_over, all_stopped}
use Rattle.ic_motion.specs.Putting.{IsNextUnfinished, ends}
use Rattle.ic_motion.proofs.Receivers.{target_there}
use Rattle.ic_motion.proofs.ending.end_next.Goals as goal

pub returns-clause-ending : goal.returns-clause-ending
returns-clause-ending g c =
    let ts : List Target = c.args.targets.now.items in
    let k : ℕ = c.next_unfinished-place.result in
    let t = c.index.result.now in
    let lt : k < length ts = omega (arith, c.if-place-len.false, c.len.ensures) in
    let going : all_stopped ts ≡ false = subst (λ (l : List Target). all_stopped l ≡ false) c.as_slice.ensures.value (sym c.all_stopped.ensures ∙ c.if-all_stopped.false) in
    let next : IsNextUnfinished ts k = subst (λ (l : List Target). IsNextUnfinished l k) c.as_slice-2.ensures.value c.next_unfinished-place.ensures in
    let left = next.left lt in
    let at = target_there ts k t lt c.index.ensures in
    let e : Some left.0 ≡ Some t = sym left.1 ∙ at in
    let one : left.0 ≡ t = cc in
    ends k t c.finish-answer.result going at (ap is_over (sym one) ∙ left.2)
    (subst (λ a. g.P.Port.log c.finish-answer.new.self ≡ logged (Finish c.args.motion a) (did c.finish-answer.result) (g.P.Port.log c.args.port.now)) c.to-to.ensures c.finish-answer.ensures.log)
    (subst (λ a. IfErr c.finish-answer.result (MayRefusePut (g.P.Port.keys c.args.port.now) c.args.motion a)) c.to-to.ensures c.finish-answer.ensures.refusals) c.end_by.ensures
