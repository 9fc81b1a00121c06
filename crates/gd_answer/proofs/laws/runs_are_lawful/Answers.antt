use Rattle.gd_answer.proofs.Running.{are_lawful, over_lawful}
use Rattle.gd_answer.proofs.laws.runs_are_lawful.Goals as goal

pub returns-clause-done : goal.returns-clause-done
returns-clause-done c = are_lawful c.streams_follow.ensures c.whole_was_finished.ensures c.outputs_grow.ensures c.answers_are_lawful.ensures.over

pub returns-clause-over : goal.returns-clause-over
returns-clause-over c = over_lawful c.streams_follow.ensures c.whole_was_finished.ensures c.outputs_grow.ensures c.answers_are_lawful.ensures.over
