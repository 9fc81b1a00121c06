use Rattle.gd_law.proofs.Readings.{takes_agree}
use Rattle.gd_law.proofs.laws.takes_agree.Goals as goal

pub returns : goal.returns
returns c = takes_agree
