use Rattle.ic_conntab.proofs.Named.{motions_are_received, motions_differ}
use Rattle.ic_conntab.proofs.place_laws.motions_are_received.Goals as goal

pub returns-clause-has : goal.returns-clause-has
returns-clause-has c = motions_are_received

pub returns-clause-distinct : goal.returns-clause-distinct
returns-clause-distinct c = motions_differ
