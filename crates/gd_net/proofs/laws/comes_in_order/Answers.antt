use Rattle.gd_net.proofs.Runs.{comes_in_order}
use Rattle.gd_net.proofs.laws.comes_in_order.Goals as goal

pub returns : goal.returns
returns c = comes_in_order
