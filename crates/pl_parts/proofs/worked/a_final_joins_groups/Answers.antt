use Rattle.pl_parts.proofs.Stories.{groups_are_whole}
use Rattle.pl_parts.proofs.worked.a_final_joins_groups.Goals as goal

pub returns : goal.returns
returns c = groups_are_whole
