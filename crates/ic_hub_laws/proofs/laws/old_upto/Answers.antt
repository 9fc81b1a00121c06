use Rattle.ic_hub_laws.proofs.Lives.{old_upto}
use Rattle.ic_hub_laws.proofs.laws.old_upto.Goals as goal

pub returns : goal.returns
returns c = old_upto
