use Rattle.std.proofs.Common.{◌+◌, ◌*◌}
use Rattle.serde_json.specs.Data.{depth}
use Rattle.serde_json.specs.View.{view}
use Rattle.pl_read.proofs.node.+node.Given as goal

-- a member nests less deep than its object
abbrev pub decreases-node_at : goal.decreases-node_at
decreases-node_at l = 3 * depth (view l.value.now) + 2

abbrev pub decreases-shaped_at : goal.decreases-shaped_at
decreases-shaped_at l = 3 * depth (view l.object.now) + 1

abbrev pub decreases-child_at : goal.decreases-child_at
decreases-child_at l = 3 * depth (view l.object.now)
