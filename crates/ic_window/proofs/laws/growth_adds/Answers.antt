use Rattle.ic_window.proofs.Growth.{growth_adds}
use Rattle.ic_window.proofs.laws.growth_adds.Goals as goal

pub returns : goal.returns
returns c = growth_adds
