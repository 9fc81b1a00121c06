use Rattle.ex_plan.proofs.Tops.{tops_are_numbered}
use Rattle.ex_plan.proofs.laws.tops_are_numbered.Goals as goal

pub returns : goal.returns
returns c = tops_are_numbered
