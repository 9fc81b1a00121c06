use Rattle.std.proofs.Common.{◌∙◌}
use Rattle.gd_sim.proofs.Steps.{all_on}
use Rattle.gd_sim.proofs.sim.Sim.all_leave.Goals as goal

pub returns-in_err-leave-clause-goes : goal.returns-in_err-leave-clause-goes
returns-in_err-leave-clause-goes c = all_on c.args.self.now c.loop-place.self c.leave.new.self c.loop-place.invariant.goes c.leave.ensures.goes

pub loop-place-preserved : goal.loop-place-preserved
loop-place-preserved c = record {
  count = c.leave.ensures.count ∙ c.loop-place.invariant.count;
  goes = all_on c.args.self.now c.loop-place.self c.leave.new.self c.loop-place.invariant.goes c.leave.ensures.goes;
}
