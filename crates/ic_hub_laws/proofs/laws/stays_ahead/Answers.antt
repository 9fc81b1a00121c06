use Rattle.ic_hub_laws.proofs.Ahead.{stays_ahead}
use Rattle.ic_hub_laws.proofs.laws.stays_ahead.Goals as goal

pub returns : goal.returns
returns c = stays_ahead
