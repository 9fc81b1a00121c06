-- The query theorem: from the histories of all nodes, with a run for each worker, to a lawful answer.
use Rattle.std.specs.Prelude.{◌≡◌, ℕ, ◌≤◌, true, List, ◌++◌}
use Rattle.ic_law.specs.declared.history.Entry.{Entry}
use Rattle.pl_plan.specs.Rules.{Given}
use Rattle.pl_plan.specs.Soundness.{IsSound}
use Rattle.pl_ops.specs.Rows.{Line}
use Rattle.pl_mean.specs.Answers.{IsLawful}
use Rattle.pl_parts.specs.Law.{AreLoaded}
use Rattle.pl_runs.specs.Distributed.{Query, Courses, DistributedRun, IsOver, dispatcher}
use Rattle.gd_answer.specs.Clean.{AreClean}

-- what a query's plan was judged with
abbrev pub given_of : Query → Given
given_of q = record { schemas = q.site.schemas; segments = q.site.segments; settings = q.settings }

-- A query with a sound plan over loaded tables, whose rows are these lists. Its packets have a size that chunks fit.
pub record IsAsked (q : Query) (wholes : List (List Line)) : Type 0 where
  pub least : 128 ≤ q.settings.packet
  pub greatest : q.settings.packet ≤ 65507
  pub loaded : AreLoaded (given_of q) wholes q.site.tables
  pub sound : IsSound (given_of q) q.tree

-- The histories of all nodes keep the laws of hubs and of the network, each worker's log is a run of its slice, and the steps
-- of each are clean.
pub record IsRunCleanly (q : Query) (nodes : List (List Entry)) (courses : Courses) (rows : List Line) : Type 0 where
  pub run : DistributedRun q nodes courses rows
  pub clean : AreClean q courses

-- whatever was done so far: with more rows after them, the rows that slice 0 let out are a lawful answer
pub record IsOnItsWay (q : Query) (wholes : List (List Line)) (rows : List Line) : Type 0 where
  pub rest : List Line
  pub lawful : IsLawful q.site.schemas wholes q.tree (rows ++ rest)

abbrev pub RunsGoOn : Type 0
RunsGoOn =
    (q : Query) (wholes : List (List Line)) (nodes : List (List Entry)) (courses : Courses) (rows : List Line) → IsAsked q wholes → IsRunCleanly q nodes courses rows
    → IsOnItsWay q wholes rows

-- once slice 0 is done, they are a lawful answer
abbrev pub RunsAreLawful : Type 0
RunsAreLawful =
    (q : Query) (wholes : List (List Line)) (nodes : List (List Entry)) (courses : Courses) (rows : List Line) → IsAsked q wholes → IsRunCleanly q nodes courses rows
    → (courses 0 dispatcher).done ≡ true → IsLawful q.site.schemas wholes q.tree rows

-- so they are if the whole run is over
abbrev pub RunsThatAreOverAreLawful : Type 0
RunsThatAreOverAreLawful =
    (q : Query) (wholes : List (List Line)) (nodes : List (List Entry)) (courses : Courses) (rows : List Line) → IsAsked q wholes → IsRunCleanly q nodes courses rows
    → IsOver q nodes courses → IsLawful q.site.schemas wholes q.tree rows
