use Rattle.pl_tree.specs.Trees.{tree_of}
use Rattle.ex_tree.specs.Running.{state_of}
use Rattle.ex_plan.specs.Workers.{site_of, place_of}
use Rattle.ex_plan.proofs.Starting.{in_order}
use Rattle.ex_plan.proofs.listening.hear_in_order.Goals as goal

pub returns : goal.returns
returns c = in_order c.hear.result state_of (site_of c.args.plan.now) (place_of c.args.id.now) c.args.motion c.in_ok-order.order c.args.order.now (tree_of c.args.child.now) c.in_ok-order.ensures c.hear.ensures
