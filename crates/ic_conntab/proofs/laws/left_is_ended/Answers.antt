use Rattle.ic_conntab.proofs.LookUp.{left_is_ended}
use Rattle.ic_conntab.proofs.laws.left_is_ended.Goals as goal

pub returns : goal.returns
returns c = left_is_ended
