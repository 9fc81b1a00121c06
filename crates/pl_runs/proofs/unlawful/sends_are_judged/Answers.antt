use Rattle.pl_runs.proofs.Stories.{puts_other_rows, finishes_early, leaves_out, routes_by_gang}
use Rattle.pl_runs.proofs.unlawful.sends_are_judged.Goals as goal

pub returns-clause-rows : goal.returns-clause-rows
returns-clause-rows c = puts_other_rows

pub returns-clause-end : goal.returns-clause-end
returns-clause-end c = finishes_early

pub returns-clause-left_out : goal.returns-clause-left_out
returns-clause-left_out c = leaves_out

pub returns-clause-routed : goal.returns-clause-routed
returns-clause-routed c = routes_by_gang
