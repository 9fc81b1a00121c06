use Rattle.ic_conntab.proofs.Placing.{place_is_its_own}
use Rattle.ic_conntab.proofs.laws.place_is_its_own.Goals as goal

pub returns : goal.returns
returns c = place_is_its_own
