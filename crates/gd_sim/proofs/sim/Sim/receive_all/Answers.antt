use Rattle.std.proofs.Common.{◌∙◌}
use Rattle.gd_sim.proofs.Steps.{all_on}
use Rattle.gd_sim.proofs.sim.Sim.receive_all.Goals as goal

pub returns-in_err-receive-clause-goes : goal.returns-in_err-receive-clause-goes
returns-in_err-receive-clause-goes c = all_on c.args.self.now c.loop.self c.receive.new.self c.loop.invariant.goes c.receive.ensures.goes

pub returns-then-not-branch-clause-goes : goal.returns-then-not-branch-clause-goes
returns-then-not-branch-clause-goes c = all_on c.args.self.now c.loop.self c.receive.new.self c.loop.invariant.goes c.receive.ensures.goes

pub loop-preserved : goal.loop-preserved
loop-preserved c = record {
  count = c.receive.ensures.count ∙ c.loop.invariant.count;
  goes = all_on c.args.self.now c.loop.self c.receive.new.self c.loop.invariant.goes c.receive.ensures.goes;
}

pub returns-clause-goes : goal.returns-clause-goes
returns-clause-goes c = all_on c.args.self.now c.loop.self c.is_busy.new.self c.loop.invariant.goes c.is_busy.ensures.goes
