use Rattle.std.proofs.Common.{take}
use Rattle.std.specs.List.{AllByRecursion}
use Rattle.gd_sim.proofs.Steps.{HasLeft}
use Rattle.gd_sim.proofs.sim.Sim.is_over.Given as goal

abbrev pub invariant-loop-station : goal.invariant-loop-station
invariant-loop-station l = AllByRecursion HasLeft (take l.station-index l.self.stations.items)
