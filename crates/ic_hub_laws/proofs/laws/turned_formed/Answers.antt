use Rattle.ic_hub_laws.proofs.Forms.{turned_formed}
use Rattle.ic_hub_laws.proofs.laws.turned_formed.Goals as goal

pub returns : goal.returns
returns c = turned_formed
