use Rattle.std.proofs.Common.{◌≡◌, ◌++◌, ◌-◌}
use Rattle.pl_tree.specs.Trees.{tree_in}
use Rattle.gd_world.specs.Workers.{seats_below, seats_of}
use Rattle.gd_world.proofs.making.seats_of.Given as goal

abbrev pub invariant-loop-done : goal.invariant-loop-done
invariant-loop-done l = l.seats.items ++ seats_below l.plan.schemas l.plan.segments (tree_in l.plan.plan) (l.count - l.done) ≡ seats_of l.plan.schemas l.plan.segments (tree_in l.plan.plan)
