use Rattle.ic_row.proofs.RowLemmas.{prefix_free as law}
use Rattle.ic_row.proofs.laws.is_prefix_free.Goals as goal

pub returns : goal.returns
returns c = law
