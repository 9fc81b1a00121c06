use Rattle.std.proofs.Common.{◌∙◌}
use Rattle.pl_ops.specs.Placed.{rows_at}
use Rattle.gd_sim.proofs.Steps.{play_on}
use Rattle.gd_sim.proofs.sim.Sim.all_turns.Goals as goal

pub returns-in_err-take_turns-clause-goes : goal.returns-in_err-take_turns-clause-goes
returns-in_err-take_turns-clause-goes c = play_on (rows_at c.args.loaded.now c.args.table) c.args.self.now c.loop-place.self c.take_turns.new.self c.loop-place.invariant.goes c.take_turns.ensures.goes

pub loop-place-preserved : goal.loop-place-preserved
loop-place-preserved c = record {
  count = c.take_turns.ensures.count ∙ c.loop-place.invariant.count;
  goes = play_on (rows_at c.args.loaded.now c.args.table) c.args.self.now c.loop-place.self c.take_turns.new.self c.loop-place.invariant.goes c.take_turns.ensures.goes;
}

pub returns-clause-goes : goal.returns-clause-goes
returns-clause-goes c = play_on (rows_at c.args.loaded.now c.args.table) c.args.self.now c.loop-place.self c.take_turns-2.new.self c.loop-place.invariant.goes c.take_turns-2.ensures.goes
