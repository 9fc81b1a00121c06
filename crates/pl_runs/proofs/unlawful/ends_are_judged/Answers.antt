use Rattle.pl_runs.proofs.Stories.{done_at_once, limit_goes_on, halts_early, asks_again}
use Rattle.pl_runs.proofs.unlawful.ends_are_judged.Goals as goal

pub returns-clause-at_once : goal.returns-clause-at_once
returns-clause-at_once c = done_at_once

pub returns-clause-limit : goal.returns-clause-limit
returns-clause-limit c = limit_goes_on

pub returns-clause-halts : goal.returns-clause-halts
returns-clause-halts c = halts_early

pub returns-clause-again : goal.returns-clause-again
returns-clause-again c = asks_again
