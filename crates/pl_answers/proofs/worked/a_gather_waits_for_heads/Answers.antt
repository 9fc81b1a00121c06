use Rattle.pl_answers.proofs.Stories.{gathers_wait}
use Rattle.pl_answers.proofs.worked.a_gather_waits_for_heads.Goals as goal

pub returns : goal.returns
returns c = gathers_wait
