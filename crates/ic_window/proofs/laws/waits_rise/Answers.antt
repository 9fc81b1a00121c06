use Rattle.ic_window.proofs.Growth.{waits_rise}
use Rattle.ic_window.proofs.laws.waits_rise.Goals as goal

pub returns : goal.returns
returns c = waits_rise
