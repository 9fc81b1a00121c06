use Rattle.ic_hub_laws.proofs.Ahead.{goes_on}
use Rattle.ic_hub_laws.proofs.laws.goes_on.Goals as goal

pub returns : goal.returns
returns c = goes_on
