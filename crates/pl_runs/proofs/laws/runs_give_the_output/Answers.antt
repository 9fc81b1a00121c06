use Rattle.pl_runs.proofs.Logged.{runs_give}
use Rattle.pl_runs.proofs.laws.runs_give_the_output.Goals as goal

pub returns : goal.returns
returns c = runs_give
