use Rattle.ic_hub_laws.proofs.Ticked.{tick_passes}
use Rattle.ic_hub_laws.proofs.laws.tick_passes.Goals as goal

pub returns : goal.returns
returns c = tick_passes
