use Rattle.ic_hub_laws.proofs.Whole.{emission_goes_on}
use Rattle.ic_hub_laws.proofs.laws.emission_goes_on.Goals as goal

pub returns : goal.returns
returns c = emission_goes_on
