use Rattle.ex_plan.proofs.Tops.{root_sends_nothing}
use Rattle.ex_plan.proofs.laws.slice_0_sends_nothing.Goals as goal

pub returns : goal.returns
returns c = root_sends_nothing
