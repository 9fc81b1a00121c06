use Rattle.ic_law.proofs.LogLemmas.{others_pass}
use Rattle.ic_law.proofs.log_laws.others_pass.Goals as goal

pub returns : goal.returns
returns c = others_pass
