use Rattle.gd_law.proofs.Readings.{puts_agree}
use Rattle.gd_law.proofs.laws.puts_agree.Goals as goal

pub returns : goal.returns
returns c = puts_agree
