use Rattle.std.proofs.Common.{◌+◌}
use Rattle.gd_net.proofs.Calls.{empty_queues, seen_fresh}
use Rattle.gd_net.proofs.network.Network.new.Goals as goal

pub invariant_of-result : goal.invariant_of-result
invariant_of-result c = empty_queues (c.args.segments + 1) c.in_ok-nodes.nodes.items c.in_ok-nodes.ensures

pub returns : goal.returns
returns c = seen_fresh c.args.drops c.args.segments c.in_ok-nodes.nodes.items c.in_ok-nodes.ensures
