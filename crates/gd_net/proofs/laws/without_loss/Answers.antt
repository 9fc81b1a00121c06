use Rattle.gd_net.proofs.Runs.{without_loss}
use Rattle.gd_net.proofs.laws.without_loss.Goals as goal

pub returns : goal.returns
returns c = without_loss
