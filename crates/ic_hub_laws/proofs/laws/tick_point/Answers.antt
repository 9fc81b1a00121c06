use Rattle.ic_hub_laws.proofs.TickPoints.{tick_point}
use Rattle.ic_hub_laws.proofs.laws.tick_point.Goals as goal

pub returns : goal.returns
returns c = tick_point
