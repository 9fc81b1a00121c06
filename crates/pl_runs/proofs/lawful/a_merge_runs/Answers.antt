use Rattle.pl_runs.proofs.Stories.{merge_runs}
use Rattle.pl_runs.proofs.lawful.a_merge_runs.Goals as goal

pub returns : goal.returns
returns c = merge_runs
