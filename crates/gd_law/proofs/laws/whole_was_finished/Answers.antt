use Rattle.gd_law.proofs.Ending.{whole_was_finished}
use Rattle.gd_law.proofs.laws.whole_was_finished.Goals as goal

pub returns : goal.returns
returns c = whole_was_finished
