use Rattle.pl_mean.proofs.Stories.{are_any_two, two_are_two}
use Rattle.pl_mean.proofs.worked.any_rows_answer_a_limit.Goals as goal

pub returns-clause-lawful : goal.returns-clause-lawful
returns-clause-lawful c = are_any_two

pub returns-clause-unlawful : goal.returns-clause-unlawful
returns-clause-unlawful c = two_are_two
