use Rattle.ic_expire.proofs.Holding.{due_gives}
use Rattle.ic_expire.proofs.laws.due_gives.Goals as goal

pub returns : goal.returns
returns c = due_gives
