use Rattle.ic_row.proofs.TotalLemmas.{orders_rows as law}
use Rattle.ic_row.proofs.laws.orders_rows.Goals as goal

pub returns : goal.returns
returns c = law
