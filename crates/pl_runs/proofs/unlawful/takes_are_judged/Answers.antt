use Rattle.pl_runs.proofs.Stories.{gives_on_empty, takes_unwanted, takes_early}
use Rattle.pl_runs.proofs.unlawful.takes_are_judged.Goals as goal

pub returns-clause-heads : goal.returns-clause-heads
returns-clause-heads c = gives_on_empty

pub returns-clause-wanted : goal.returns-clause-wanted
returns-clause-wanted c = takes_unwanted

pub returns-clause-early : goal.returns-clause-early
returns-clause-early c = takes_early
