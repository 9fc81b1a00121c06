use Rattle.std.proofs.Common.{◌≡◌, ◌≢◌, ℕ, ◌<◌, get_or, [], false}
use Rattle.gd_net.specs.declared.node.Node.{Node}
use Rattle.gd_net.specs.Inside.{queue_of}
use Rattle.gd_net.proofs.node.are_still.Given as goal

abbrev pub invariant-loop-k : goal.invariant-loop-k
invariant-loop-k l = (i : ℕ) (d : Node) → i < l.k → (queue_of (get_or l.nodes i d) ≡ []) × (i ≢ l.place → (get_or l.nodes i d).has_one ≡ false)
