use Rattle.pl_mean.proofs.Stories.{waits_for_heads, gives_least, ties_from_least, gives_as_taken}
use Rattle.pl_mean.proofs.worked.an_ordered_gather_waits.Goals as goal

pub returns-clause-waits : goal.returns-clause-waits
returns-clause-waits c = waits_for_heads

pub returns-clause-least : goal.returns-clause-least
returns-clause-least c = gives_least

pub returns-clause-ties : goal.returns-clause-ties
returns-clause-ties c = ties_from_least

pub returns-clause-unordered : goal.returns-clause-unordered
returns-clause-unordered c = gives_as_taken
