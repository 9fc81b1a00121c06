use Rattle.ic_chunk.proofs.Ended.{counts}
use Rattle.ic_chunk.proofs.count_laws.counts_rows.Goals as goal

pub returns : goal.returns
returns c = counts
