use Rattle.ic_unique.proofs.Stories.{both_due_forced}
use Rattle.ic_unique.proofs.worked.two_connections_are_due.Goals as goal

pub returns : goal.returns
returns c = both_due_forced
