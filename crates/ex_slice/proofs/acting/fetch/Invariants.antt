use Rattle.std.proofs.Common.{◌≡◌, ◌≤◌, List}
use Rattle.ic_base.specs.declared.keys.ConnEnd.{ConnEnd}
use Rattle.pl_ops.specs.Rows.{Line}
use Rattle.pl_runs.specs.Steps.{Step, calls_of}
use Rattle.ex_tree.specs.Parts.{Part}
use Rattle.ex_tree.specs.Running.{state_of, AreHeard, Runs}
use Rattle.ex_tree.specs.Working.{work}
use Rattle.ex_slice.proofs.acting.fetch.Given as goal

abbrev pub invariant-loop-got : goal.invariant-loop-got
invariant-loop-got g l = record {
  same : l.port ≡ l.fn.port;
  heard : (keys : List ConnEnd) → AreHeard keys (state_of l.fn.tree) → AreHeard keys (state_of l.tree);
  runs : (part : Part) (steps : List Step) (given : List Line) → calls_of steps ≡ g.P.Port.log l.fn.port → Runs part (state_of l.fn.tree) steps given → Runs part (state_of l.tree) steps given;
  less : work (state_of l.tree) ≤ work (state_of l.fn.tree);
}

abbrev pub decreases-loop-got : goal.decreases-loop-got
decreases-loop-got g l = work (state_of l.tree)
