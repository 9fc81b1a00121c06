use Rattle.ic_expire.proofs.Holding.{due_takes}
use Rattle.ic_expire.proofs.laws.due_takes.Goals as goal

pub returns : goal.returns
returns c = due_takes
