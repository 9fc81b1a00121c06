use Rattle.ic_hub_laws.proofs.Lives.{once_live}
use Rattle.ic_hub_laws.proofs.laws.live_once.Goals as goal

pub returns : goal.returns
returns c = once_live
