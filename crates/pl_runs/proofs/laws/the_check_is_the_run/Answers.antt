use Rattle.pl_runs.proofs.Checked.{run-from, run-to}
use Rattle.pl_runs.proofs.laws.the_check_is_the_run.Goals as goal

pub returns-clause-follows : goal.returns-clause-follows
returns-clause-follows c = run-from

pub returns-clause-gives : goal.returns-clause-gives
returns-clause-gives c = run-to
