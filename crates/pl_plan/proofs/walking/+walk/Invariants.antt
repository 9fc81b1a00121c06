use Rattle.std.proofs.Common.{◌+◌, ◌*◌}
use Rattle.pl_tree.specs.Trees.{tree_of, nodes_in}
use Rattle.pl_plan.proofs.walking.+walk.Given as goal

abbrev pub decreases-walk : goal.decreases-walk
decreases-walk l = 2 * nodes_in (tree_of l.node.now)

abbrev pub decreases-walk_join : goal.decreases-walk_join
decreases-walk_join l = 2 * (nodes_in (tree_of l.left.now) + nodes_in (tree_of l.right.now)) + 1
