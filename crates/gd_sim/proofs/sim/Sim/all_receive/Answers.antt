use Rattle.std.proofs.Common.{◌∙◌}
use Rattle.gd_sim.proofs.Steps.{all_on}
use Rattle.gd_sim.proofs.sim.Sim.all_receive.Goals as goal

pub returns-in_err-receive_all-clause-goes : goal.returns-in_err-receive_all-clause-goes
returns-in_err-receive_all-clause-goes c = all_on c.args.self.now c.loop-place.self c.receive_all.new.self c.loop-place.invariant.goes c.receive_all.ensures.goes

pub loop-place-preserved : goal.loop-place-preserved
loop-place-preserved c = record {
  count = c.receive_all.ensures.count ∙ c.loop-place.invariant.count;
  goes = all_on c.args.self.now c.loop-place.self c.receive_all.new.self c.loop-place.invariant.goes c.receive_all.ensures.goes;
}
