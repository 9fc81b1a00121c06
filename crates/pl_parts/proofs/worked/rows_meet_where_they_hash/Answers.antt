use Rattle.pl_parts.proofs.Stories.{rows_meet}
use Rattle.pl_parts.proofs.worked.rows_meet_where_they_hash.Goals as goal

pub returns : goal.returns
returns c = rows_meet
