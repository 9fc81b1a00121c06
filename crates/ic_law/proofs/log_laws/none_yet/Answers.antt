use Rattle.ic_law.proofs.LogLemmas.{none_yet}
use Rattle.ic_law.proofs.log_laws.none_yet.Goals as goal

pub returns : goal.returns
returns c = none_yet
