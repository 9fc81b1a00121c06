use Rattle.std.proofs.Common.{rules, ◌≡◌, length, ap, arith}
use Rattle.pl_tree.specs.Trees.{tree_of}
use Rattle.pl_plan.specs.Layout as spec
use Rattle.pl_plan.specs.declared.layout.Layout.{Layout}
use Rattle.pl_plan.proofs.LayoutLaws.{laid_count}
use Rattle.pl_plan.proofs.layout.+lay.Goals as goal

pub lay_both-lay-requires-2 : goal.lay_both-lay-requires-2
lay_both-lay-requires-2 t c =
    let e : c.in_ok-layout.layout ≡ spec.laid c.args.loci.now c.args.slice c.args.gang (tree_of c.args.left.now) c.args.layout = search rules in
    (search rules, omega (arith, ap (λ (x : Layout). length x.motions) e, laid_count c.args.loci.now c.args.slice c.args.gang (tree_of c.args.left.now) c.args.layout, c.requires))
