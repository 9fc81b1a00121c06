use Rattle.ic_window.proofs.Growth.{growth_keeps}
use Rattle.ic_window.proofs.laws.growth_keeps.Goals as goal

pub returns : goal.returns
returns c = growth_keeps
