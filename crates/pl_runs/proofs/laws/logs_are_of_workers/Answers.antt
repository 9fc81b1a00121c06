use Rattle.pl_runs.proofs.Logged.{log_grows, workers_apart}
use Rattle.pl_runs.proofs.laws.logs_are_of_workers.Goals as goal

pub returns-clause-grows : goal.returns-clause-grows
returns-clause-grows c = log_grows

pub returns-clause-apart : goal.returns-clause-apart
returns-clause-apart c = workers_apart
