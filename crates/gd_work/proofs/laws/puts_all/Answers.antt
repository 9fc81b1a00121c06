use Rattle.gd_work.proofs.Whole.{puts_all}
use Rattle.gd_work.proofs.laws.puts_all.Goals as goal

pub returns : goal.returns
returns c = puts_all
