use Rattle.std.proofs.Common.{◌∙◌}
use Rattle.pl_ops.specs.Placed.{rows_at}
use Rattle.gd_sim.proofs.Steps.{play_on}
use Rattle.gd_sim.proofs.sim.Sim.take_turns.Goals as goal

pub returns-in_err-turn-clause-goes : goal.returns-in_err-turn-clause-goes
returns-in_err-turn-clause-goes c = play_on (rows_at c.args.loaded.now c.args.table) c.args.self.now c.loop.self c.turn.new.self c.loop.invariant.goes c.turn.ensures.goes

pub returns-then-not-branch-clause-goes : goal.returns-then-not-branch-clause-goes
returns-then-not-branch-clause-goes c = play_on (rows_at c.args.loaded.now c.args.table) c.args.self.now c.loop.self c.turn.new.self c.loop.invariant.goes c.turn.ensures.goes

pub loop-preserved : goal.loop-preserved
loop-preserved c = record {
  count = c.turn.ensures.count ∙ c.loop.invariant.count;
  goes = play_on (rows_at c.args.loaded.now c.args.table) c.args.self.now c.loop.self c.turn.new.self c.loop.invariant.goes c.turn.ensures.goes;
}
