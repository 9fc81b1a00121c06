use Rattle.std.proofs.Common.{rules, ◌≡◌, subst, arith}
use Rattle.pl_plan.specs.Kept.{IsKept}
use Rattle.pl_plan.proofs.KeptLaws.{slices_count}
use Rattle.pl_plan.proofs.sound.SoundPlan.nodes.Goals as goal

pub overflow_cast-result : goal.overflow_cast-result
overflow_cast-result c =
    let k : IsKept c.args.self.now c.self.inside.loci c.self.inside.slices c.self.inside.motions = subst (λ j. IsKept j c.self.inside.loci c.self.inside.slices c.self.inside.motions) c.self.view_is c.self.invariant in
    omega (arith, slices_count c.args.self.now c.self.inside.loci c.self.inside.slices c.self.inside.motions k, k.judged.plan.nodes, c.len.ensures)

pub returns : goal.returns
returns c =
    let k : IsKept c.args.self.now c.self.inside.loci c.self.inside.slices c.self.inside.motions = subst (λ j. IsKept j c.self.inside.loci c.self.inside.slices c.self.inside.motions) c.self.view_is c.self.invariant in
    omega (arith, slices_count c.args.self.now c.self.inside.loci c.self.inside.slices c.self.inside.motions k, c.len.ensures)
