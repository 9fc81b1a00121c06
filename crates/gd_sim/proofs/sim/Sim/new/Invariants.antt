use Rattle.gd_sim.proofs.Starting.{AreNew}
use Rattle.gd_sim.proofs.sim.Sim.new.Given as goal

abbrev pub invariant-loop-number : goal.invariant-loop-number
invariant-loop-number l = AreNew l.session l.settings l.number l.stations.items
