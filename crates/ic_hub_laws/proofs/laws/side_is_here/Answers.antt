use Rattle.ic_hub_laws.proofs.Lives.{side_is_here}
use Rattle.ic_hub_laws.proofs.laws.side_is_here.Goals as goal

pub returns : goal.returns
returns c = side_is_here
