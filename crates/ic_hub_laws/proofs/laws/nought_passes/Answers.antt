use Rattle.ic_hub_laws.proofs.Nought.{nought_passes}
use Rattle.ic_hub_laws.proofs.laws.nought_passes.Goals as goal

pub returns : goal.returns
returns c = nought_passes
