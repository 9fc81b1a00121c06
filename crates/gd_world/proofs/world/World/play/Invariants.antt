use Rattle.std.proofs.Common.{take}
use Rattle.gd_world.specs.Worlds.{IsWorld}
use Rattle.gd_world.specs.Steps.{Plays}
use Rattle.gd_world.proofs.world.World.play.Given as goal

abbrev pub invariant-loop-step : goal.invariant-loop-step
invariant-loop-step l = Plays (take l.step-index l.steps) l.fn.self l.self × IsWorld l.self
