use Rattle.std.proofs.Common.{◌+◌, ◌*◌}
use Rattle.pl_tree.specs.Trees.{tree_of, nodes_in}
use Rattle.ex_plan.proofs.making.+grow.Given as goal

abbrev pub decreases-grow : goal.decreases-grow
decreases-grow l = 4 * nodes_in (tree_of l.node.now)

abbrev pub decreases-grow_over : goal.decreases-grow_over
decreases-grow_over l = 4 * nodes_in (tree_of l.child.now) + 1

abbrev pub decreases-grow_stage : goal.decreases-grow_stage
decreases-grow_stage l = 4 * nodes_in (tree_of l.child.now) + 2

abbrev pub decreases-grow_join : goal.decreases-grow_join
decreases-grow_join l = 4 * (nodes_in (tree_of l.left.now) + nodes_in (tree_of l.right.now)) + 1
