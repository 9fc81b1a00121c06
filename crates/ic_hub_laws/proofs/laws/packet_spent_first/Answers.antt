use Rattle.ic_hub_laws.proofs.Spent.{packet_spent_first}
use Rattle.ic_hub_laws.proofs.laws.packet_spent_first.Goals as goal

pub returns : goal.returns
returns c = packet_spent_first
