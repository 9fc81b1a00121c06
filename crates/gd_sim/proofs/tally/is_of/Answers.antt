use Rattle.std.proofs.Common.{ℤ, pos, negsuc, subst}
use Rattle.std.specs.Prelude.{◌≤ℤ◌}
use Rattle.ic_header.specs.Packets.{key_of}
use Rattle.gd_sim.proofs.KeyLemmas.{not_same}
use Rattle.gd_sim.proofs.tally.is_of.Goals as goal

pub returns-in-None : goal.returns-in-None
returns-in-None c =
    not_same (key_of c.args.head.now) c.args.key.now (λ is. c.in-None.ensures.none c.args.key.now
    (subst (λ (n : ℤ). negsuc 0 ≤ℤ n) c.number.ensures.value c.number.ensures.least, subst (λ (n : ℤ). n ≤ℤ pos 63) c.number.ensures.value c.number.ensures.greatest)
    (subst (λ (n : ℤ). negsuc 0 ≤ℤ n) c.number-2.ensures.value c.number-2.ensures.least, subst (λ (n : ℤ). n ≤ℤ pos 63) c.number-2.ensures.value c.number-2.ensures.greatest) is)
