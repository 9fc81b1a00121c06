use Rattle.ic_hub_laws.proofs.Concerned.{concerned_passes}
use Rattle.ic_hub_laws.proofs.laws.concerned_passes.Goals as goal

pub returns : goal.returns
returns c = concerned_passes
