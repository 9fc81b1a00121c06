use Rattle.ic_row.proofs.HashLemmas.{hashes_by_key as law}
use Rattle.ic_row.proofs.laws.hashes_by_key.Goals as goal

pub returns : goal.returns
returns c = law
