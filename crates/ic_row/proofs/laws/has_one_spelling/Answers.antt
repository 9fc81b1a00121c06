use Rattle.ic_row.proofs.RowLemmas.{one_spelling as law}
use Rattle.ic_row.proofs.laws.has_one_spelling.Goals as goal

pub returns : goal.returns
returns c = law
