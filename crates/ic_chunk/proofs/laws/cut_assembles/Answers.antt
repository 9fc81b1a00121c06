use Rattle.ic_chunk.proofs.CutLaws.{cut_assembles}
use Rattle.ic_chunk.proofs.laws.cut_assembles.Goals as goal

pub returns : goal.returns
returns c = cut_assembles
