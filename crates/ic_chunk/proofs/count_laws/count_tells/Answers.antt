use Rattle.ic_chunk.proofs.Ended.{tells}
use Rattle.ic_chunk.proofs.count_laws.count_tells.Goals as goal

pub returns : goal.returns
returns c = tells
