use Rattle.ic_chunk.proofs.Fronts.{front_assembles}
use Rattle.ic_chunk.proofs.laws.front_assembles.Goals as goal

pub returns : goal.returns
returns c = front_assembles
