use Rattle.gd_world.specs.declared.step.Step.TheVariants as step
use Rattle.gd_world.proofs.Played.{world_after}
use Rattle.gd_world.proofs.world.World.step.Goals as goal

pub returns-in-Begin-clause-world : goal.returns-in-Begin-clause-world
returns-in-Begin-clause-world c = world_after (step.Begin c.in-Begin.at) c.begin.result c.args.self.now c.begin.new.self c.requires c.begin.ensures.ok c.begin.ensures.err

pub returns-in-Deliver-clause-world : goal.returns-in-Deliver-clause-world
returns-in-Deliver-clause-world c = world_after (step.Deliver c.in-Deliver.number c.in-Deliver.to) c.deliver.result c.args.self.now c.deliver.new.self c.requires c.deliver.ensures.ok c.deliver.ensures.err

pub returns-in-Tick-clause-world : goal.returns-in-Tick-clause-world
returns-in-Tick-clause-world c = world_after (step.Tick c.in-Tick.at) c.tick.result c.args.self.now c.tick.new.self c.requires c.tick.ensures.ok c.tick.ensures.err

pub returns-in-Leave-clause-world : goal.returns-in-Leave-clause-world
returns-in-Leave-clause-world c = world_after (step.Leave c.in-Leave.at) c.leave.result c.args.self.now c.leave.new.self c.requires c.leave.ensures.ok c.leave.ensures.err
