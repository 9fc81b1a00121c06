use Rattle.ic_unique.proofs.Stories.{stopped_forced}
use Rattle.ic_unique.proofs.worked.a_stop_ends_it.Goals as goal

pub returns : goal.returns
returns c = stopped_forced
