use Rattle.ic_hub_laws.proofs.Spent.{nothing_spent}
use Rattle.ic_hub_laws.proofs.laws.nothing_spent.Goals as goal

pub returns : goal.returns
returns c = nothing_spent
