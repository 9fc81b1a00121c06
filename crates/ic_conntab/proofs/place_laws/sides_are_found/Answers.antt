use Rattle.ic_conntab.proofs.Named.{sides_are_found}
use Rattle.ic_conntab.proofs.place_laws.sides_are_found.Goals as goal

pub returns : goal.returns
returns c = sides_are_found
