use Rattle.pl_ops.specs.Placed.{rows_at}
use Rattle.gd_sim.proofs.Steps.{play_on, any_rows, all_on}
use Rattle.gd_sim.proofs.sim.Sim.round.Goals as goal

pub returns-in_err-all_receive-clause-goes : goal.returns-in_err-all_receive-clause-goes
returns-in_err-all_receive-clause-goes c =
    let rows = rows_at c.args.loaded.now c.args.table in
    play_on rows c.args.self.now c.all_turns.new.self c.all_receive.new.self c.all_turns.ensures.goes
    (any_rows rows c.all_turns.new.self c.all_receive.new.self c.all_receive.ensures.goes)

pub returns-in_err-all_tick-clause-goes : goal.returns-in_err-all_tick-clause-goes
returns-in_err-all_tick-clause-goes c =
    let rows = rows_at c.args.loaded.now c.args.table in
    play_on rows c.args.self.now c.all_turns.new.self c.all_tick.new.self c.all_turns.ensures.goes
    (any_rows rows c.all_turns.new.self c.all_tick.new.self
    (all_on c.all_turns.new.self c.all_receive.new.self c.all_tick.new.self c.all_receive.ensures.goes c.all_tick.ensures.goes))

pub returns-in_err-all_leave-clause-goes : goal.returns-in_err-all_leave-clause-goes
returns-in_err-all_leave-clause-goes c =
    let rows = rows_at c.args.loaded.now c.args.table in
    play_on rows c.args.self.now c.all_turns.new.self c.all_leave.new.self c.all_turns.ensures.goes
    (any_rows rows c.all_turns.new.self c.all_leave.new.self
    (all_on c.all_turns.new.self c.all_tick.new.self c.all_leave.new.self
    (all_on c.all_turns.new.self c.all_receive.new.self c.all_tick.new.self c.all_receive.ensures.goes c.all_tick.ensures.goes) c.all_leave.ensures.goes))

pub returns-clause-goes : goal.returns-clause-goes
returns-clause-goes c =
    let rows = rows_at c.args.loaded.now c.args.table in
    play_on rows c.args.self.now c.all_turns.new.self c.all_leave.new.self c.all_turns.ensures.goes
    (any_rows rows c.all_turns.new.self c.all_leave.new.self
    (all_on c.all_turns.new.self c.all_tick.new.self c.all_leave.new.self
    (all_on c.all_turns.new.self c.all_receive.new.self c.all_tick.new.self c.all_receive.ensures.goes c.all_tick.ensures.goes) c.all_leave.ensures.goes))
