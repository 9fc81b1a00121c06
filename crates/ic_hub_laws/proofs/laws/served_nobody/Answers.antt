use Rattle.ic_hub_laws.proofs.Served.{served_nobody}
use Rattle.ic_hub_laws.proofs.laws.served_nobody.Goals as goal

pub returns : goal.returns
returns c = served_nobody
