use Rattle.ic_conntab.proofs.Ending.{ended_for_good}
use Rattle.ic_conntab.proofs.laws.ended_for_good.Goals as goal

pub returns : goal.returns
returns c = ended_for_good
