use Rattle.std.proofs.Common.{◌≡◌}
use Rattle.gd_sim.proofs.Starting.{AreBegun}
use Rattle.gd_sim.proofs.sim.Sim.begin.Given as goal

abbrev pub invariant-loop-place : goal.invariant-loop-place
invariant-loop-place l = AreBegun l.beginning l.initial.self.stations.items l.self.stations.items l.place × (l.self.network ≡ l.initial.self.network)
