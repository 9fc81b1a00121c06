use Rattle.pl_runs.proofs.Stories.{limit_runs, empty_limit_runs}
use Rattle.pl_runs.proofs.lawful.a_limit_runs.Goals as goal

pub returns-clause-two : goal.returns-clause-two
returns-clause-two c = limit_runs

pub returns-clause-none : goal.returns-clause-none
returns-clause-none c = empty_limit_runs
