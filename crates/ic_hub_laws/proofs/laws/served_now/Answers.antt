use Rattle.ic_hub_laws.proofs.Served.{served_now}
use Rattle.ic_hub_laws.proofs.laws.served_now.Goals as goal

pub returns : goal.returns
returns c = served_now
