use Rattle.std.proofs.Common.{◌≡◌, length}
use Rattle.gd_sim.specs.Runs.{Stands}
use Rattle.gd_sim.proofs.sim.Sim.run_all.Given as goal

abbrev pub invariant-loop-place : goal.invariant-loop-place
invariant-loop-place l = record {
  next : l.place ≡ length l.lists.items;
  stands : Stands l.common.session l.common.segments l.common.settings l.loaded l.feeds l.self l.lists.items;
}
