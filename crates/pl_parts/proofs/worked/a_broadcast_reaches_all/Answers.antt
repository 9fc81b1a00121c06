use Rattle.pl_parts.proofs.Stories.{broadcasts_reach_all}
use Rattle.pl_parts.proofs.worked.a_broadcast_reaches_all.Goals as goal

pub returns : goal.returns
returns c = broadcasts_reach_all
