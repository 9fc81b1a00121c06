use Rattle.gd_world.proofs.Running.{worlds_run_cleanly, rows_are_let_out}
use Rattle.gd_world.proofs.laws.worlds_run_cleanly.Goals as goal

pub returns-clause-runs : goal.returns-clause-runs
returns-clause-runs c = worlds_run_cleanly

pub returns-clause-rows : goal.returns-clause-rows
returns-clause-rows c = rows_are_let_out
