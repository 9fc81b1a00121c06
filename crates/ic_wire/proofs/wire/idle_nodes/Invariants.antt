use Rattle.std.proofs.Common.{◌≡◌, map, take}
use Rattle.ic_wire.specs.Wires.{idle_node}
use Rattle.ic_wire.proofs.wire.idle_nodes.Given as goal

abbrev pub invariant-loop-at : goal.invariant-loop-at
invariant-loop-at l = l.idle.items ≡ map idle_node (take l.at-index l.nodes)
