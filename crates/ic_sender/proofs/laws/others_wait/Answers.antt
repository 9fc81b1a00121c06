use Rattle.ic_sender.proofs.Knowing.{others_wait}
use Rattle.ic_sender.proofs.laws.others_wait.Goals as goal

pub returns : goal.returns
returns c s held left h same old = others_wait s held left h same old
