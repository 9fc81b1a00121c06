use Rattle.gd_net.proofs.Runs.{was_sent}
use Rattle.gd_net.proofs.laws.was_sent.Goals as goal

pub returns : goal.returns
returns c = was_sent
