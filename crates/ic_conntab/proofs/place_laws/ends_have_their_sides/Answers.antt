use Rattle.ic_conntab.proofs.Named.{ends_have_their_sides}
use Rattle.ic_conntab.proofs.place_laws.ends_have_their_sides.Goals as goal

pub returns : goal.returns
returns c = ends_have_their_sides
