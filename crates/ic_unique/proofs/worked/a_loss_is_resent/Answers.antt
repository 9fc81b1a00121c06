use Rattle.ic_unique.proofs.Stories.{resent_forced}
use Rattle.ic_unique.proofs.worked.a_loss_is_resent.Goals as goal

pub returns : goal.returns
returns c = resent_forced
