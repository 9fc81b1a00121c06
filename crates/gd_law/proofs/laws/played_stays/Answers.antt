use Rattle.gd_law.proofs.Staying.{played_stays}
use Rattle.gd_law.proofs.laws.played_stays.Goals as goal

pub returns : goal.returns
returns c = played_stays
