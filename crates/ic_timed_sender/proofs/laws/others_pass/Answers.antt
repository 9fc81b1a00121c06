use Rattle.ic_timed_sender.proofs.Silence.{others_pass}
use Rattle.ic_timed_sender.proofs.laws.others_pass.Goals as goal

pub returns : goal.returns
returns c = others_pass
