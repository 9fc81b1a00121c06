use Rattle.ic_hub_laws.proofs.Served.{served_before}
use Rattle.ic_hub_laws.proofs.laws.served_before.Goals as goal

pub returns : goal.returns
returns c = served_before
