use Rattle.std.proofs.Common.{subst, take_all}
use Rattle.gd_world.specs.Steps.{Steps, Plays}
use Rattle.gd_world.proofs.Played.{plays_more, front_by}
use Rattle.gd_world.proofs.world.World.play.Goals as goal

pub loop-step-preserved : goal.loop-step-preserved
loop-step-preserved c = (
  plays_more c.args.steps.now c.loop-step.step-index c.step-item.result c.in_ok-_applies._applies c.args.self.now c.loop-step.self c.step.new.self c.loop-step-test.true c.loop-step.invariant.0
      (subst (λ s. Steps s c.in_ok-_applies._applies c.loop-step.self c.step.new.self) c.step-item.is c.in_ok-_applies.ensures.ok),
  c.in_ok-_applies.ensures.world,
)

pub returns-in_err-_applies-clause-err : goal.returns-in_err-_applies-clause-err
returns-in_err-_applies-clause-err c = front_by c.from_residual.result c.args.steps.now c.loop-step.step-index c.args.self.now c.loop-step.self c.step.new.self c.loop-step.invariant.0 c.in_err-_applies.ensures.err

pub returns-clause-ok : goal.returns-clause-ok
returns-clause-ok c = subst (λ l. Plays l c.args.self.now c.loop-step.self) (take_all c.loop-step.step-index c.args.steps.now c.loop-step-test.false) c.loop-step.invariant.0
