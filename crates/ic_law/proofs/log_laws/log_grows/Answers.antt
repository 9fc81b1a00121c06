use Rattle.ic_law.proofs.LogLemmas.{log_grows}
use Rattle.ic_law.proofs.log_laws.log_grows.Goals as goal

pub returns : goal.returns
returns c = log_grows
