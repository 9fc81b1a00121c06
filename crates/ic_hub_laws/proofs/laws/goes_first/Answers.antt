use Rattle.ic_hub_laws.proofs.Ahead.{goes_first}
use Rattle.ic_hub_laws.proofs.laws.goes_first.Goals as goal

pub returns : goal.returns
returns c = goes_first
