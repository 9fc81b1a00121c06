use Rattle.std.proofs.Common.{◌≡◌, ℕ, ◌<◌, length, Some, sym, ap, ◌∙◌, subst, arith}
use Rattle.ic_base.specs.declared.port.PortAsk.TheVariants.{Halt}
use Rattle.ic_base.specs.Ports.{did, logged}
use Rattle.ic_motion.specs.Halting.{is_heard, IsNextGoing, halts}
use Rattle.ic_motion.proofs.Places.{lane_there}
use Rattle.ic_motion.proofs.halting.halt_next.Goals as goal

pub returns-clause-halting : goal.returns-clause-halting
returns-clause-halting g c =
    let lanes = c.args.tracks.now.items in
    let k : ℕ = c.next_going-place.result in
    let l = c.index.result.now in
    let lt : k < length lanes = omega (arith, c.if-place-len.false, c.len.ensures) in
    let next : IsNextGoing lanes k = subst (λ ls. IsNextGoing ls k) c.as_slice.ensures.value c.next_going-place.ensures in
    let left = next.left lt in
    let at = lane_there lanes k l lt c.index.ensures in
    let e : Some left.0 ≡ Some l = sym left.1 ∙ at in
    let one : left.0 ≡ l = cc in
    halts k l c.halt-answer.result at (ap is_heard (sym one) ∙ left.2)
    (subst (λ a. g.P.Port.log c.halt-answer.new.self ≡ logged (Halt c.args.motion a) (did c.halt-answer.result) (g.P.Port.log c.args.port.now)) c.sender-sender.ensures c.halt-answer.ensures.log)
    c.halt-answer.ensures.refusals c.halt_by.ensures
