use Rattle.pl_answers.proofs.Stories.{limits_keep_the_least}
use Rattle.pl_answers.proofs.worked.a_limit_keeps_the_least.Goals as goal

pub returns : goal.returns
returns c = limits_keep_the_least
