-- A slice's worker: what it has done of the run of its slice.
use Rattle.std.specs.Prelude.{◌≡◌, ◌⊎◌, ℕ, ◌+◌, ◌*◌, true, false, List, [], ◌∷◌, Option, Some, None}
use Rattle.std.specs.List.{AllByRecursion}
use Rattle.ic_base.specs.declared.keys.ConnEnd.{ConnEnd}
use Rattle.ic_base.specs.declared.port.PortEntry.{PortEntry}
use Rattle.ic_row.specs.Spelling.{IsRow}
use Rattle.pl_ops.specs.Rows.{Line}
use Rattle.pl_ops.specs.Giving.{IsOver}
use Rattle.pl_runs.specs.Steps.{Step, calls_of}
use Rattle.pl_runs.specs.Logs.{IsRead}
use Rattle.pl_runs.specs.Slices.{Worker}
use Rattle.pl_runs.specs.Runs.{Course, Every, SliceRun}
use Rattle.gd_answer.specs.Clean.{IsClean}
use Rattle.ic_motion.specs.Sending.{Sender, Work, Sends, SendsToEach, receivers_of, handed, IsIdle, all_stopped, all_over}
use Rattle.ic_motion.specs.Sent.{SameOut}
use Rattle.ic_motion.specs.Pulling.{Listens}
use Rattle.ex_tree.specs.Parts.{Part, Source, Has, out}
use Rattle.ex_tree.specs.Running.{State, Runs}
use Rattle.ex_tree.specs.Working as trees
use Rattle.ex_slice.specs.declared.stage.Stage.{Stage}
use Rattle.ex_slice.specs.declared.stage.Stage.TheVariants.{Giving, Ending, Halting, Done, Refused}
use Rattle.ex_slice.specs.declared.way.Way.{Way}
use Rattle.ex_slice.specs.declared.way.Way.TheVariants as ways
use Rattle.ex_plan.specs.Workers.{Serves}
use Rattle.ex_slice.specs.Serving.{Faces}

-- what contracts see of a slice: where it stands, its operators, and where its rows go
pub record Working : Type 0 where
  pub stage : Stage
  pub tree : State
  pub way : Way

-- ---- the rows that the operators gave

abbrev pub held : Option Line → List Line
held None = []
held (Some row) = row ∷ []

-- the rows handed to the sending end, and the row in hand after them, unless it is handed over already
abbrev pub with_hand : Work → List Line → Option Line → List Line
with_hand work rows None = rows
with_hand work rows (Some row) = handed work rows row

-- the sending end matches the steps of what was handed to it, and with the row in hand these are the rows that were given; each
-- can be spelled and read back
pub record Passed (m : Sender) (hand : Option Line) (steps : List Step) (given : List Line) : Type 0 where
  pub rows : List Line
  pub sends : Sends m steps rows
  pub given_are : given ≡ with_hand m.work rows hand
  pub idle : hand ≡ None → IsIdle m.work
  pub are_rows : AllByRecursion IsRow given
  pub hand_is_row : AllByRecursion IsRow (held hand)

-- slice 0 has let out all that was given, and another slice nothing
abbrev pub Handles : Way → List Step → (given let_out : List Line) → Type 0
Handles (ways.Lets rows) steps given let_out = (rows ≡ given) × (let_out ≡ given)
Handles (ways.Passes m hand) steps given let_out = (let_out ≡ []) × Passed m hand steps given

-- the rows that it has let out
abbrev pub let_out_by : Way → List Line
let_out_by (ways.Lets rows) = rows
let_out_by (ways.Passes m hand) = []

-- ---- by stage

-- its operators gave these rows, and what became of them
pub record Inside (w : Worker) (part : Part) (tree : State) (way : Way) (c : Course) (given : List Line) : Type 0 where
  pub serves : Serves w part
  pub faces : Faces w way
  pub runs : Runs part tree c.steps given
  pub undone : c.done ≡ false
  pub handles : Handles way c.steps given c.let_out

-- no stream is being finished
abbrev pub IsOpen : Way → Type 0
IsOpen (ways.Lets rows) = Unit {0}
IsOpen (ways.Passes m hand) = (m.ending ≡ false) × (m.refused ≡ None)

-- nothing is in hand
abbrev pub IsEmptied : Way → Type 0
IsEmptied (ways.Lets rows) = Unit {0}
IsEmptied (ways.Passes m hand) = (hand ≡ None) × (m.refused ≡ None)

-- nothing more is to be sent: no receiver wants more, or the output has ended and each stream is finished or stopped
abbrev pub IsSent : Part → Way → List Step → List Line → Type 0
IsSent part (ways.Lets rows) steps given = IsOver (out part steps) given
IsSent part (ways.Passes m hand) steps given = (all_stopped m.targets ≡ true) ⊎ ((all_over m.targets ≡ true) × IsOver (out part steps) given)

-- what it holds, where it stands
abbrev pub HoldsAt : Worker → Part → Stage → State → Way → Course → Type 0
HoldsAt w part Giving tree way c = (given : List Line) × Inside w part tree way c given × IsOpen way
HoldsAt w part Ending tree way c = (given : List Line) × Inside w part tree way c given × IsEmptied way × IsOver (out part c.steps) given
HoldsAt w part Halting tree way c = (given : List Line) × Inside w part tree way c given × IsSent part way c.steps given
HoldsAt w part Done tree way c = (c.done ≡ true) × (let_out_by way ≡ c.let_out)
HoldsAt w part (Refused no_) tree way c = Unit {0}

-- A worker of the plan, with the part of its slice, has done this: a run of its slice, whose steps are read and clean, and what it
-- holds goes on with it.
pub record Works (w : Worker) (part : Part) (x : Working) (c : Course) : Type 0 where
  pub run : SliceRun w c
  pub read : Every IsRead c.steps
  pub clean : IsClean w c.steps
  pub holds : HoldsAt w part x.stage x.tree x.way c

-- ---- before a turn

-- the connections are those on which the part's motions are heard
abbrev pub Listening : List ConnEnd → Part → Type 0
Listening keys part = (source : Source) → Has part source → Listens keys source.end.motion source.senders

-- and those on which the rows are sent
abbrev pub Reaching : List ConnEnd → Way → Type 0
Reaching keys (ways.Lets rows) = Unit {0}
Reaching keys (ways.Passes m hand) = SendsToEach keys m.motion (receivers_of m.targets)

-- A slice may have a turn with a port of these connections and this log: the calls in the log are those that it made, for some worker
-- of whose part and way the connections are.
pub record CanTurn (keys : List ConnEnd) (log : List PortEntry) (x : Working) : Type 0 where
  pub worker : Worker
  pub part : Part
  pub course : Course
  pub calls : calls_of course.steps ≡ log
  pub works : Works worker part x course
  pub listens : Listening keys part
  pub reaches : Reaching keys x.way

-- the rows go where they went: the motion and its receivers are the same
abbrev pub SameWay : (old new : Way) → Type 0
SameWay (ways.Lets old) (ways.Lets new) = Unit {0}
SameWay (ways.Passes old hand) (ways.Passes new hand_now) = SameOut old new
SameWay (ways.Lets old) (ways.Passes new hand) = ⊥
SameWay (ways.Passes old hand) (ways.Lets new) = ⊥

-- ---- before the first turn

-- a sending end that was handed nothing
pub record IsFresh (m : Sender) : Type 0 where
  pub sends : Sends m [] []
  pub idle : IsIdle m.work
  pub open_ : m.ending ≡ false
  pub going : m.refused ≡ None

abbrev pub fresh_course : Course
fresh_course = record { steps = []; let_out = []; done = false }

-- ---- how many more turns without a call it can make, at most

abbrev pub stages_left : Stage → ℕ
stages_left Giving = 3
stages_left Ending = 2
stages_left Halting = 1
stages_left Done = 0
stages_left (Refused no_) = 0

abbrev pub hand_count : Option Line → ℕ
hand_count None = 0
hand_count (Some row) = 1

abbrev pub way_work : Way → ℕ
way_work (ways.Lets rows) = 0
way_work (ways.Passes m hand) = hand_count hand

abbrev pub work : Working → ℕ
work x = stages_left x.stage + (2 * trees.work x.tree + way_work x.way)
