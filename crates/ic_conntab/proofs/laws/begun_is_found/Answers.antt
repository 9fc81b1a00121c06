use Rattle.ic_conntab.proofs.LookUp.{begun_is_found}
use Rattle.ic_conntab.proofs.laws.begun_is_found.Goals as goal

pub returns : goal.returns
returns c = begun_is_found
