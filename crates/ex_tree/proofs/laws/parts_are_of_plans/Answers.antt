use Rattle.ex_tree.proofs.Planned.{of_plan}
use Rattle.ex_tree.proofs.laws.parts_are_of_plans.Goals as goal

pub returns : goal.returns
returns c = of_plan
