use Rattle.std.proofs.Common.{◌≡◌, map}
use Rattle.gd_sim.specs.Playing.{entries_in}
use Rattle.gd_sim.proofs.sim.Sim.into_histories.Given as goal

abbrev pub invariant-loop-station : goal.invariant-loop-station
invariant-loop-station l = l.histories.items ≡ map entries_in l.yielded
