use Rattle.pl_mean.proofs.Stories.{is_merged, order_counts}
use Rattle.pl_mean.proofs.worked.sorted_rows_answer_a_merge.Goals as goal

pub returns-clause-lawful : goal.returns-clause-lawful
returns-clause-lawful c = is_merged

pub returns-clause-unlawful : goal.returns-clause-unlawful
returns-clause-unlawful c = order_counts
