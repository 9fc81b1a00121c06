use Rattle.std.proofs.Common.{subst, sym}
use Rattle.ex_tree.specs.Running.{state_of}
use Rattle.ex_slice.specs.declared.stage.Stage.TheVariants as stages
use Rattle.ex_slice.specs.declared.way.Way.TheVariants as ways
use Rattle.ex_slice.specs.Working.{Works, fresh_course}
use Rattle.ex_slice.specs.Acting.{at_stage}
use Rattle.ex_slice.proofs.Fresh.{root_begins}
use Rattle.ex_slice.proofs.slice.Slice.root.Goals as goal

pub returns-clause-begins : goal.returns-clause-begins
returns-clause-begins c = λ w part serves lets runs. subst (λ r. Works w part (at_stage stages.Giving (state_of c.args.tree) (ways.Lets r)) fresh_course) (sym c.new.ensures) (root_begins w part (state_of c.args.tree) serves lets runs)
