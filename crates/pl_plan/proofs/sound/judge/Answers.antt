use Rattle.std.proofs.Common.{arith}
use Rattle.pl_tree.specs.Trees.{tree_in}
use Rattle.pl_plan.proofs.LayoutLaws.{motions_most}
use Rattle.pl_plan.proofs.sound.judge.Goals as goal

pub note-requires : goal.note-requires
note-requires c = omega (arith, motions_most (tree_in c.args.plan.now), c.requires.plan.nodes)
