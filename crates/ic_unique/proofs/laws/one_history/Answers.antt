use Rattle.ic_unique.proofs.Runs.{one_history}
use Rattle.ic_unique.proofs.laws.one_history.Goals as goal

pub returns : goal.returns
returns c = one_history
