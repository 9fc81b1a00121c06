use Rattle.ic_row.proofs.RowLemmas.{begins_alone as law}
use Rattle.ic_row.proofs.laws.begins_alone.Goals as goal

pub returns : goal.returns
returns c = law
