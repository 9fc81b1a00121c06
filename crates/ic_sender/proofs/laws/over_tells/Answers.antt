use Rattle.ic_sender.proofs.Knowing.{over_there, over_here}
use Rattle.ic_sender.proofs.laws.over_tells.Goals as goal

pub returns : goal.returns
returns c s held h stands = (over_there s held h stands, over_here s held h stands)
