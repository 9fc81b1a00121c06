use Rattle.std.proofs.Common.{◌∙◌}
use Rattle.gd_sim.proofs.Steps.{all_on}
use Rattle.gd_sim.proofs.sim.Sim.all_tick.Goals as goal

pub returns-in_err-tick-clause-goes : goal.returns-in_err-tick-clause-goes
returns-in_err-tick-clause-goes c = all_on c.args.self.now c.loop-place.self c.tick.new.self c.loop-place.invariant.goes c.tick.ensures.goes

pub loop-place-preserved : goal.loop-place-preserved
loop-place-preserved c = record {
  count = c.tick.ensures.count ∙ c.loop-place.invariant.count;
  goes = all_on c.args.self.now c.loop-place.self c.tick.new.self c.loop-place.invariant.goes c.tick.ensures.goes;
}
