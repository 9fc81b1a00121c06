use Rattle.ic_conntab.proofs.Ending.{top_never_falls}
use Rattle.ic_conntab.proofs.laws.top_never_falls.Goals as goal

pub returns : goal.returns
returns c = top_never_falls
