use Rattle.ic_hub_laws.proofs.Ahead.{ahead_goes_on}
use Rattle.ic_hub_laws.proofs.laws.ahead_goes_on.Goals as goal

pub returns : goal.returns
returns c = ahead_goes_on
