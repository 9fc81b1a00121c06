use Rattle.ic_unique.proofs.Stories.{asked_forced}
use Rattle.ic_unique.proofs.worked.a_query_is_due_too.Goals as goal

pub returns : goal.returns
returns c = asked_forced
