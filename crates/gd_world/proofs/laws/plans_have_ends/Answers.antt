use Rattle.gd_world.proofs.PlanEnds.{plans_have_ends}
use Rattle.gd_world.proofs.laws.plans_have_ends.Goals as goal

pub returns : goal.returns
returns c = plans_have_ends
