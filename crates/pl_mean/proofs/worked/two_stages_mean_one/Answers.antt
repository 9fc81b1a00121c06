use Rattle.pl_mean.proofs.Stories.{count_means}
use Rattle.pl_mean.proofs.worked.two_stages_mean_one.Goals as goal

pub returns : goal.returns
returns c = count_means
