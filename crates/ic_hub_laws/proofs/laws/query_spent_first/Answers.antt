use Rattle.ic_hub_laws.proofs.Spent.{query_spent_first}
use Rattle.ic_hub_laws.proofs.laws.query_spent_first.Goals as goal

pub returns : goal.returns
returns c = query_spent_first
