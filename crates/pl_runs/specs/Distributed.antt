-- The run of a query over all nodes of a session, and when it is over.
use Rattle.std.specs.Prelude.{◌≡◌, ℕ, ℤ, negsuc, true, List, Contains, ◌⊎◌}
use Rattle.std.specs.List.{AllByRecursion}
use Rattle.ic_base.specs.declared.settings.Settings.{Settings}
use Rattle.ic_law.specs.declared.history.Entry.{Entry}
use Rattle.ic_law.specs.Points.{place_at}
use Rattle.ic_law.specs.Taking.{IsWhole, IsHalted}
use Rattle.ic_law.specs.Hub.{HubLaw}
use Rattle.ic_law.specs.Streams.{NetworkLaw, history_of}
use Rattle.pl_tree.specs.Trees.{Tree}
use Rattle.pl_plan.specs.Ends.{key_of}
use Rattle.pl_plan.specs.Motions.{Link, links_in, gang_of}
use Rattle.pl_ops.specs.Rows.{Line}
use Rattle.pl_mean.specs.Parts.{Site}
use Rattle.pl_runs.specs.Steps.{calls_of}
use Rattle.pl_runs.specs.Slices.{Worker}
use Rattle.pl_runs.specs.Runs.{Course, Every, SliceRun}
use Rattle.pl_runs.specs.Logs.{ends_of, log_of, IsRead}

-- a query of a session: its number, its plan, and the tables
pub record Query : Type 0 where
  pub session : ℕ
  pub settings : Settings
  pub number : ℕ
  pub site : Site
  pub tree : Tree

abbrev pub worker_at : Query → ℕ → ℤ → Worker
worker_at q slice at = record { site = q.site; tree = q.tree; packet = q.settings.packet; slice = slice; at = at }

-- the dispatcher's worker, of slice 0
abbrev pub dispatcher : ℤ
dispatcher = negsuc 0

abbrev pub root_of : Query → Worker
root_of q = worker_at q 0 dispatcher

-- what the worker of a slice at a segment did, as its node's history has it: a run of the slice
pub record IsWorked (q : Query) (nodes : List (List Entry)) (slice : ℕ) (at : ℤ) (c : Course) : Type 0 where
  pub log : calls_of c.steps ≡ log_of (ends_of (worker_at q slice at) q.session q.number) (history_of nodes at)
  pub read : Every IsRead c.steps
  pub run : SliceRun (worker_at q slice at) c

-- what each worker did, by slice and segment
abbrev pub Courses : Type 0
Courses = ℕ → ℤ → Course

-- The histories of all nodes keep the network law and the hub law, each worker's log is a run of its slice, and the rows of
-- the query are those that slice 0 let out.
pub record DistributedRun (q : Query) (nodes : List (List Entry)) (courses : Courses) (rows : List Line) : Type 0 where
  pub network : NetworkLaw nodes
  pub hubs : (segment : ℤ) → HubLaw (place_at q.session segment q.settings) (history_of nodes segment)
  pub workers : (slice : ℕ) (at : ℤ) → Contains (gang_of q.site.schemas q.site.segments q.tree slice) at → IsWorked q nodes slice at (courses slice at)
  pub rows_are : rows ≡ (courses 0 dispatcher).let_out

-- the receiving end of a connection has all that it wants
abbrev pub IsHeardOut : Query → List (List Entry) → Link → Type 0
IsHeardOut q nodes link =
    IsWhole (key_of q.session q.number link) (history_of nodes link.to) ⊎ IsHalted (key_of q.session q.number link) (history_of nodes link.to)

-- each worker is done, and each receiving end is whole or halted
pub record IsOver (q : Query) (nodes : List (List Entry)) (courses : Courses) : Type 0 where
  pub workers : (slice : ℕ) (at : ℤ) → Contains (gang_of q.site.schemas q.site.segments q.tree slice) at → (courses slice at).done ≡ true
  pub heard : AllByRecursion (IsHeardOut q nodes) (links_in q.site.schemas q.site.segments q.tree)
