use Rattle.ic_sender.proofs.Beginning.{others_pass}
use Rattle.ic_sender.proofs.laws.others_pass.Goals as goal

pub returns : goal.returns
returns c s held h e silent old = others_pass s held h e silent old
