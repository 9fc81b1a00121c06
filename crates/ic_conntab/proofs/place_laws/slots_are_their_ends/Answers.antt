use Rattle.ic_conntab.proofs.Counted.{slots_are_their_ends, slots_come_once}
use Rattle.ic_conntab.proofs.place_laws.slots_are_their_ends.Goals as goal

pub returns-clause-ends : goal.returns-clause-ends
returns-clause-ends c = slots_are_their_ends

pub returns-clause-once : goal.returns-clause-once
returns-clause-once c = slots_come_once
