use Rattle.ic_hub_laws.proofs.Whole.{law_goes_on}
use Rattle.ic_hub_laws.proofs.laws.law_goes_on.Goals as goal

pub returns : goal.returns
returns c = law_goes_on
