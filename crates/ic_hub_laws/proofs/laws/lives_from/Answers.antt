use Rattle.ic_hub_laws.proofs.Lives.{lives_from}
use Rattle.ic_hub_laws.proofs.laws.lives_from.Goals as goal

pub returns : goal.returns
returns c = lives_from
