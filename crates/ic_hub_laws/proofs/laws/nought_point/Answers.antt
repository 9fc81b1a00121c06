use Rattle.ic_hub_laws.proofs.NoughtPoints.{nought_point}
use Rattle.ic_hub_laws.proofs.laws.nought_point.Goals as goal

pub returns : goal.returns
returns c = nought_point
