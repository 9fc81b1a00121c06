use Rattle.std.proofs.Common.{take}
use Rattle.std.specs.List.{AllByRecursion}
use Rattle.gd_sim.proofs.Steps.{KeepsLaws}
use Rattle.gd_sim.proofs.sim.Sim.lawful.Given as goal

abbrev pub invariant-loop-station : goal.invariant-loop-station
invariant-loop-station l = AllByRecursion KeepsLaws (take l.station-index l.self.stations.items)
