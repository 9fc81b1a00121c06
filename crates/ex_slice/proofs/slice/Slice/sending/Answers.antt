use Rattle.ex_tree.specs.Running.{state_of}
use Rattle.ex_slice.proofs.Fresh.{sending_begins}
use Rattle.ex_slice.proofs.slice.Slice.sending.Goals as goal

pub returns-clause-begins : goal.returns-clause-begins
returns-clause-begins c = λ w part serves faces fresh runs. sending_begins w part (state_of c.args.tree) c.args.out serves faces fresh runs
