use Rattle.ic_chunk.proofs.OneWay.{one_assembly}
use Rattle.ic_chunk.proofs.laws.one_assembly.Goals as goal

pub returns : goal.returns
returns c = one_assembly
