use Rattle.std.proofs.Common.{◌∙◌}
use Rattle.pl_ops.specs.Placed.{rows_at}
use Rattle.gd_sim.proofs.Steps.{play_on}
use Rattle.gd_sim.proofs.sim.Sim.rounds.Goals as goal

pub returns-in_err-round-clause-goes : goal.returns-in_err-round-clause-goes
returns-in_err-round-clause-goes c = play_on (rows_at c.args.loaded.now c.args.table) c.args.self.now c.loop.self c.round.new.self c.loop.invariant.goes c.round.ensures.goes

pub returns-then-is_over-clause-goes : goal.returns-then-is_over-clause-goes
returns-then-is_over-clause-goes c = play_on (rows_at c.args.loaded.now c.args.table) c.args.self.now c.loop.self c.round.new.self c.loop.invariant.goes c.round.ensures.goes

pub loop-preserved : goal.loop-preserved
loop-preserved c = record {
  count = c.round.ensures.count ∙ c.loop.invariant.count;
  goes = play_on (rows_at c.args.loaded.now c.args.table) c.args.self.now c.loop.self c.round.new.self c.loop.invariant.goes c.round.ensures.goes;
}
