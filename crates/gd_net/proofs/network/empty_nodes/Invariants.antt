use Rattle.std.proofs.Common.{◌≡◌, length}
use Rattle.gd_net.specs.Inside.{AreEmpty}
use Rattle.gd_net.proofs.network.empty_nodes.Given as goal

abbrev pub invariant-loop : goal.invariant-loop
invariant-loop l = AreEmpty l.counter l.nodes.items
