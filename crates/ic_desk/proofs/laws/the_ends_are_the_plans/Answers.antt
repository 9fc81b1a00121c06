use Rattle.ic_desk.proofs.Plans.{own_are_the_plans}
use Rattle.ic_desk.proofs.laws.the_ends_are_the_plans.Goals as goal

pub returns : goal.returns
returns c = own_are_the_plans
