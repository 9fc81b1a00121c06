use Rattle.ic_receiver.proofs.Others.{stands_silent}
use Rattle.ic_receiver.proofs.laws.others_pass.Goals as goal

pub returns : goal.returns
returns c = λ s settings h e silent stands. stands_silent settings s h e silent stands
