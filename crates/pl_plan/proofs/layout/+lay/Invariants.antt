use Rattle.std.proofs.Common.{◌+◌, ◌*◌}
use Rattle.pl_tree.specs.Trees.{tree_of, nodes_in}
use Rattle.pl_plan.proofs.layout.+lay.Given as goal

abbrev pub decreases-lay : goal.decreases-lay
decreases-lay l = 2 * nodes_in (tree_of l.node.now)

abbrev pub decreases-lay_both : goal.decreases-lay_both
decreases-lay_both l = 2 * (nodes_in (tree_of l.left.now) + nodes_in (tree_of l.right.now)) + 1
