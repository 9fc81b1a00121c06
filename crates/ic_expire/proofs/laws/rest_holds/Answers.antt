use Rattle.ic_expire.proofs.Holding.{rest_holds}
use Rattle.ic_expire.proofs.laws.rest_holds.Goals as goal

pub returns : goal.returns
returns c = rest_holds
