use Rattle.ic_row.proofs.RowLemmas.{read_again as law}
use Rattle.ic_row.proofs.laws.reads_what_is_spelled.Goals as goal

pub returns : goal.returns
returns c = law
