use Rattle.gd_law.proofs.Answered.{played_is_answered}
use Rattle.gd_law.proofs.laws.played_is_answered.Goals as goal

pub returns : goal.returns
returns c = played_is_answered
