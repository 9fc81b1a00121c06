use Rattle.ic_hub_laws.proofs.Lives.{live_are_there}
use Rattle.ic_hub_laws.proofs.laws.live_are_there.Goals as goal

pub returns : goal.returns
returns c = live_are_there
