use Rattle.std.proofs.Common.{◌≡◌, length}
use Rattle.gd_sim.specs.Stations.{AllGoes}
use Rattle.gd_sim.proofs.sim.Sim.receive_all.Given as goal

abbrev pub invariant-loop : goal.invariant-loop
invariant-loop l = record {
  count : length l.self.stations.items ≡ length l.fn.self.stations.items;
  goes : AllGoes l.fn.self l.self;
}
