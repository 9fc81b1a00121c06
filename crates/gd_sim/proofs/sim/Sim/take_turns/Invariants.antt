use Rattle.std.proofs.Common.{◌≡◌, length}
use Rattle.pl_ops.specs.Placed.{rows_at}
use Rattle.gd_sim.specs.Stations.{PlayGoes}
use Rattle.gd_sim.proofs.sim.Sim.take_turns.Given as goal

abbrev pub invariant-loop : goal.invariant-loop
invariant-loop l = record {
  count : length l.self.stations.items ≡ length l.fn.self.stations.items;
  goes : PlayGoes (rows_at l.loaded l.table) l.fn.self l.self;
}
