use Rattle.ic_hub_laws.proofs.Spent.{clock_moves}
use Rattle.ic_hub_laws.proofs.laws.clock_moves.Goals as goal

pub returns : goal.returns
returns c = clock_moves
