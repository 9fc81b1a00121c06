-- What follows from the definitions of logs and of runs over all nodes.
use Rattle.std.specs.Prelude.{◌≡◌, true, List, ◌++◌}
use Rattle.ic_base.specs.declared.keys.ConnEnd.{ConnEnd}
use Rattle.ic_law.specs.declared.history.Entry.{Entry}
use Rattle.pl_ops.specs.Rows.{Line}
use Rattle.pl_runs.specs.Slices.{output_of}
use Rattle.pl_runs.specs.Logs.{log_of}
use Rattle.pl_runs.specs.Distributed.{Query, Courses, DistributedRun, IsOver, dispatcher, root_of}

-- entries added to a history add their own log
abbrev pub LogGrows : Type 0
LogGrows = (ends : List ConnEnd) (h more : List Entry) → log_of ends (h ++ more) ≡ log_of ends h ++ log_of ends more

-- the rows of a run that is over are all rows of the root's output, which has ended
pub record AreAllOfRoot (q : Query) (courses : Courses) (rows : List Line) : Type 0 where
  pub ended : (output_of (root_of q) (courses 0 dispatcher).steps).ended ≡ true
  pub all : (output_of (root_of q) (courses 0 dispatcher).steps).rows ≡ rows

abbrev pub RunsGiveTheOutput : Type 0
RunsGiveTheOutput = (q : Query) (nodes : List (List Entry)) (courses : Courses) (rows : List Line) → DistributedRun q nodes courses rows → IsOver q nodes courses → AreAllOfRoot q courses rows
