use Rattle.pl_mean.proofs.Stories.{join_is_routed}
use Rattle.pl_mean.proofs.worked.rows_go_where_they_hash.Goals as goal

pub returns : goal.returns
returns c = join_is_routed
