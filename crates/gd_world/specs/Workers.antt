-- A worker of a query's plan in a world: its slice stands for the turns that it took.
use Rattle.std.specs.Prelude.{◌≡◌, ℕ, zero, suc, ◌+◌, ◌<◌, ℤ, List, [], ◌++◌, map, Some, Contains, slice_get}
use Rattle.std.specs.List.{AllByRecursion}
use Rattle.ic_base.specs.declared.keys.ConnEnd.{ConnEnd}
use Rattle.ic_base.specs.declared.port.PortEntry.{PortEntry}
use Rattle.ic_law.specs.Streams.{node_of}
use Rattle.pl_tree.specs.declared.schema.Schema.{Schema}
use Rattle.pl_tree.specs.Trees.{Tree}
use Rattle.pl_plan.specs.Motions.{gang_of, slices_in}
use Rattle.pl_runs.specs.Steps.{calls_of}
use Rattle.pl_runs.specs.Slices.{Worker}
use Rattle.pl_runs.specs.Runs.{Course}
use Rattle.pl_runs.specs.Logs.{ends_of}
use Rattle.pl_runs.specs.Distributed.{Query, worker_at}
use Rattle.ex_tree.specs.Parts.{Part}
use Rattle.ex_slice.specs.declared.stage.Stage.{Stage}
use Rattle.ex_slice.specs.declared.stage.Stage.TheVariants.{Giving, Ending, Halting, Done, Refused}
use Rattle.ex_slice.specs.declared.stage.SliceNo.TheVariants as why
use Rattle.ex_slice.specs.Working.{Working, Works, Listening, Reaching}
use Rattle.gd_world.specs.declared.seat.Seat.{Seat}
use Rattle.gd_world.specs.Events.{segment_at}
use Rattle.gd_world.specs.Turns.{Taken, logged_by, last_answer, StandsBy, AnswersTurn}

-- ---- seats

abbrev pub seat_of : ℕ → ℤ → Seat
seat_of slice at = record { slice = slice; at = at }

-- the seats of the slices below a number, the greatest slice first, and of one slice in the order of its gang
abbrev pub seats_below : List Schema → ℕ → Tree → ℕ → List Seat
seats_below s segments tree zero = []
seats_below s segments tree (suc n) = map (seat_of n) (gang_of s segments tree n) ++ seats_below s segments tree n

-- the seats of all workers of a plan
abbrev pub seats_of : List Schema → ℕ → Tree → List Seat
seats_of s segments tree = seats_below s segments tree (slices_in tree)

abbrev pub seats_in : Query → List Seat
seats_in q = seats_of q.site.schemas q.site.segments q.tree

-- the worker of the plan that has this seat
abbrev pub worker_in : Query → Seat → Worker
worker_in q seat = worker_at q seat.slice seat.at

-- the ends of its connections
abbrev pub ends_in : Query → Seat → List ConnEnd
ends_in q seat = ends_of (worker_in q seat) q.session q.number

-- Each worker of the plan has one seat, and each seat is at a node of the session.
pub record AreSeats (q : Query) (seats : List Seat) : Type 0 where
  pub all : (slice : ℕ) (at : ℤ) → Contains (gang_of q.site.schemas q.site.segments q.tree slice) at → (k : ℕ) × (slice_get seats k ≡ Some (record { slice = slice; at = at }))
  pub within : (k : ℕ) (seat : Seat) → slice_get seats k ≡ Some seat → node_of seat.at < q.site.segments + 1
  pub at : (k : ℕ) (seat : Seat) → slice_get seats k ≡ Some seat → seat.at ≡ segment_at (node_of seat.at)
  pub once : (k l : ℕ) (seat : Seat) → slice_get seats k ≡ Some seat → slice_get seats l ≡ Some seat → k ≡ l

-- ---- a slice and its course

-- it was refused for want of memory, or by what it took, and may not have read that
abbrev pub IsLost : Stage → Type 0
IsLost Giving = ⊥
IsLost Ending = ⊥
IsLost Halting = ⊥
IsLost Done = ⊥
IsLost (Refused (why.TooLong key)) = ⊥
IsLost (Refused (why.Malformed key)) = Unit {0}
IsLost (Refused (why.Overflow node)) = ⊥
IsLost (Refused why.Memory) = Unit {0}

-- With some part of a tree the slice is the worker's, it did this course, and the course's calls are the log; the part hears over
-- these ends. Nothing is kept of a slice that was lost.
pub data Keeps (w : Worker) (ends : List ConnEnd) (x : Working) (log : List PortEntry) (c : Course) : Type 0 where
  keeps : (part : Part) → Works w part x c → calls_of c.steps ≡ log → Listening ends part → Keeps w ends x log c
  lost : IsLost x.stage → Keeps w ends x log c

-- After these turns the slice stands as the last one was answered, and each was answered as its call was. Its rows go over its ends.
pub record WorkerStands (w : Worker) (ends : List ConnEnd) (x : Working) (ts : List Taken) (c : Course) : Type 0 where
  pub told : StandsBy x.stage (last_answer ts)
  pub answers : AllByRecursion (AnswersTurn ends) ts
  pub reaches : Reaching ends x.way
  pub does : Keeps w ends x (logged_by ends ts) c
