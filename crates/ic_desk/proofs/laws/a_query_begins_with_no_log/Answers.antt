use Rattle.ic_desk.proofs.Quiet.{none_has_a_log}
use Rattle.ic_desk.proofs.laws.a_query_begins_with_no_log.Goals as goal

pub returns : goal.returns
returns c = none_has_a_log
