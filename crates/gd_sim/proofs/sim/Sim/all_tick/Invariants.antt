use Rattle.std.proofs.Common.{◌≡◌, length}
use Rattle.gd_sim.specs.Stations.{AllGoes}
use Rattle.gd_sim.proofs.sim.Sim.all_tick.Given as goal

abbrev pub invariant-loop-place : goal.invariant-loop-place
invariant-loop-place l = record {
  count : length l.self.stations.items ≡ length l.fn.self.stations.items;
  goes : AllGoes l.fn.self l.self;
}
