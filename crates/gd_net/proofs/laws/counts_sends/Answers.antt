use Rattle.gd_net.proofs.Runs.{counts_sends}
use Rattle.gd_net.proofs.laws.counts_sends.Goals as goal

pub returns : goal.returns
returns c = counts_sends
