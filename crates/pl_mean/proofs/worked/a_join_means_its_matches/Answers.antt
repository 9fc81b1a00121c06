use Rattle.pl_mean.proofs.Stories.{join_means}
use Rattle.pl_mean.proofs.worked.a_join_means_its_matches.Goals as goal

pub returns : goal.returns
returns c = join_means
