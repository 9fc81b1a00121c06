use Rattle.std.proofs.Common.{rules, ◌≡◌, subst, arith}
use Rattle.pl_plan.specs.Kept.{IsKept}
use Rattle.pl_plan.proofs.KeptLaws.{few_motions, motions_count}
use Rattle.pl_plan.proofs.sound.SoundPlan.slices.Goals as goal

pub overflow_cast-result : goal.overflow_cast-result
overflow_cast-result c =
    let k : IsKept c.args.self.now c.self.inside.loci c.self.inside.slices c.self.inside.motions = subst (λ j. IsKept j c.self.inside.loci c.self.inside.slices c.self.inside.motions) c.self.view_is c.self.invariant in
    omega (arith, few_motions c.args.self.now c.self.inside.loci c.self.inside.slices c.self.inside.motions k, c.len.ensures)

pub overflow_add-result : goal.overflow_add-result
overflow_add-result c =
    let k : IsKept c.args.self.now c.self.inside.loci c.self.inside.slices c.self.inside.motions = subst (λ j. IsKept j c.self.inside.loci c.self.inside.slices c.self.inside.motions) c.self.view_is c.self.invariant in
    omega (arith, few_motions c.args.self.now c.self.inside.loci c.self.inside.slices c.self.inside.motions k, c.len.ensures)

pub returns : goal.returns
returns c =
    let k : IsKept c.args.self.now c.self.inside.loci c.self.inside.slices c.self.inside.motions = subst (λ j. IsKept j c.self.inside.loci c.self.inside.slices c.self.inside.motions) c.self.view_is c.self.invariant in
    omega (arith, motions_count c.args.self.now c.self.inside.loci c.self.inside.slices c.self.inside.motions k, c.len.ensures)
