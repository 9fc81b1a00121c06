use Rattle.ic_hub_laws.proofs.Lives.{lives_until}
use Rattle.ic_hub_laws.proofs.laws.lives_until.Goals as goal

pub returns : goal.returns
returns c = lives_until
