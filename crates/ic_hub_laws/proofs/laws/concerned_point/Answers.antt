use Rattle.ic_hub_laws.proofs.ConcernedPoints.{concerned_point}
use Rattle.ic_hub_laws.proofs.laws.concerned_point.Goals as goal

pub returns : goal.returns
returns c = concerned_point
