use Rattle.gd_answer.proofs.Running.{go_on}
use Rattle.gd_answer.proofs.laws.runs_go_on.Goals as goal

pub returns : goal.returns
returns c = go_on c.streams_follow.ensures c.whole_was_finished.ensures c.outputs_grow.ensures c.answers_are_lawful.ensures.goes_on
