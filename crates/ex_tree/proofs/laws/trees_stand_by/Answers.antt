use Rattle.ex_tree.proofs.Planned.{stands_by}
use Rattle.ex_tree.proofs.laws.trees_stand_by.Goals as goal

pub returns : goal.returns
returns c = stands_by
