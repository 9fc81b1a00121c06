use Rattle.pl_runs.proofs.Stories.{join_runs}
use Rattle.pl_runs.proofs.lawful.a_join_runs.Goals as goal

pub returns : goal.returns
returns c = join_runs
