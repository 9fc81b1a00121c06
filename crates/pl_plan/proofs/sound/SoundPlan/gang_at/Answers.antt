use Rattle.std.proofs.Common.{rules, ◌≡◌, ◌≢◌, ◌-◌, subst}
use Rattle.std.specs.Prelude.{Some, None, slice_get}
use Rattle.pl_plan.specs.Kept.{IsKept}
use Rattle.pl_plan.proofs.KeptLaws.{gang_is, gang_there}
use Rattle.pl_plan.proofs.sound.SoundPlan.gang_at.Goals as goal

pub returns-in-Some : goal.returns-in-Some
returns-in-Some c =
    let k : IsKept c.args.self.now c.self.inside.loci c.self.inside.slices c.self.inside.motions = subst (λ j. IsKept j c.self.inside.loci c.self.inside.slices c.self.inside.motions) c.self.view_is c.self.invariant in
    let other : c.args.slice ≢ 0 = search rules in
    let found : slice_get c.self.inside.motions (c.args.slice - 1) ≡ Some c.in-Some.motion.now = search rules in
    gang_is c.args.self.now c.self.inside.loci c.self.inside.slices c.self.inside.motions c.args.slice c.in-Some.motion.now k other found

pub returns-in-None : goal.returns-in-None
returns-in-None c =
    let k : IsKept c.args.self.now c.self.inside.loci c.self.inside.slices c.self.inside.motions = subst (λ j. IsKept j c.self.inside.loci c.self.inside.slices c.self.inside.motions) c.self.view_is c.self.invariant in
    let other : c.args.slice ≢ 0 = search rules in
    let missing : slice_get c.self.inside.motions (c.args.slice - 1) ≡ None = search rules in
    absurd (gang_there c.args.self.now c.self.inside.loci c.self.inside.slices c.self.inside.motions c.args.slice k other c.requires missing)
