use Rattle.gd_sim.specs.Stations.{KeepsOrSent}
use Rattle.gd_sim.proofs.sim.send.Given as goal

abbrev pub invariant-loop-datagram : goal.invariant-loop-datagram
invariant-loop-datagram l = KeepsOrSent l.datagrams l.fn.network l.network
