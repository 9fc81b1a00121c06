use Rattle.ic_hub_laws.proofs.Lives.{lives_on}
use Rattle.ic_hub_laws.proofs.laws.lives_on.Goals as goal

pub returns : goal.returns
returns c = lives_on
