use Rattle.pl_mean.proofs.Stories.{are_top_two, least_is_there}
use Rattle.pl_mean.proofs.worked.first_rows_answer_a_top.Goals as goal

pub returns-clause-lawful : goal.returns-clause-lawful
returns-clause-lawful c = are_top_two

pub returns-clause-unlawful : goal.returns-clause-unlawful
returns-clause-unlawful c = least_is_there
