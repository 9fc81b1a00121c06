use Rattle.std.proofs.Common.{◌≡◌, ℤ, pos, FitsSigned, w32, to_z, sym, ap, ◌∙◌, arith}
use Rattle.std.proofs.lemmas.Int.{ints, to_z-of_z}
use Rattle.ic_motion.proofs.Scripts.{hears_0, hears_at}
use Rattle.ic_motion.proofs.tests.script.is_heard.Goals as goal

pub returns-then-number-eq0 : goal.returns-then-number-eq0
returns-then-number-eq0 c =
    let n : ℤ = c.number.result in
    let fits : FitsSigned w32 n = omega (arith, ints, c.number.ensures.least, c.number.ensures.greatest) in
    let there : n ≡ pos 0 = sym (to_z-of_z w32 n fits) ∙ ap (to_z w32) c.if-number-eq0.true in
    λ _. hears_at c.args.motion c.args.from (pos 0) c.if-motion-ne2.false (sym c.number.ensures.value ∙ there) hears_0
