use Rattle.ic_conntab.proofs.Named.{keys_are_of_ends, keys_differ}
use Rattle.ic_conntab.proofs.place_laws.keys_are_of_ends.Goals as goal

pub returns-clause-has : goal.returns-clause-has
returns-clause-has c = keys_are_of_ends

pub returns-clause-distinct : goal.returns-clause-distinct
returns-clause-distinct c = keys_differ
