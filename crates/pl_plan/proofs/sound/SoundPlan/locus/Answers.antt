use Rattle.std.proofs.Common.{rules, ◌≡◌, subst}
use Rattle.std.specs.Prelude.{None, slice_get}
use Rattle.pl_plan.specs.Kept.{IsKept}
use Rattle.pl_plan.proofs.KeptLaws.{locus_there}
use Rattle.pl_plan.proofs.sound.SoundPlan.locus.Goals as goal

pub returns-in-None : goal.returns-in-None
returns-in-None c =
    let k : IsKept c.args.self.now c.self.inside.loci c.self.inside.slices c.self.inside.motions = subst (λ j. IsKept j c.self.inside.loci c.self.inside.slices c.self.inside.motions) c.self.view_is c.self.invariant in
    let missing : slice_get c.self.inside.loci c.args.node ≡ None = search rules in
    absurd (locus_there c.args.self.now c.self.inside.loci c.self.inside.slices c.self.inside.motions c.args.node k c.requires missing)
