-- What a turn does: the call that it makes, the row that it lets out, and what it answers.
use Rattle.std.specs.Prelude.{◌≡◌, ◌≢◌, ◌⊎◌, ◌≤◌, ◌<◌, Bool, true, false, List, [], ◌∷◌, ◌++◌, length, Result, Ok, Err}
use Rattle.ic_base.specs.declared.port.PortNo.{PortNo}
use Rattle.ic_base.specs.declared.port.PortNo.TheVariants.{Full, Empty, Stopped, Ended, TooLong, Busy, Memory}
use Rattle.ic_base.specs.declared.port.PortReply.{PortReply}
use Rattle.ic_base.specs.declared.port.PortReply.TheVariants as reply
use Rattle.ic_base.specs.declared.port.PortEntry.{PortEntry}
use Rattle.pl_ops.specs.Rows.{Line}
use Rattle.pl_runs.specs.Steps.{Step, calls_of, is_halt}
use Rattle.pl_runs.specs.Slices.{Worker}
use Rattle.pl_runs.specs.Runs.{Course}
use Rattle.ex_tree.specs.Parts.{Part, Overflowed}
use Rattle.ex_tree.specs.Pulling.{IsSpoilt}
use Rattle.ex_slice.specs.declared.stage.Stage.{Stage}
use Rattle.ex_slice.specs.declared.stage.Stage.TheVariants as stages
use Rattle.ex_slice.specs.declared.stage.Turned.{Turned}
use Rattle.ex_slice.specs.declared.stage.Turned.TheVariants.{Moved, Waiting, Done}
use Rattle.ex_slice.specs.declared.stage.SliceNo.{SliceNo}
use Rattle.ex_slice.specs.declared.stage.SliceNo.TheVariants as why
use Rattle.ex_slice.specs.Working.{Working, Works, work}

-- ---- stages

-- it has neither done all nor been refused
abbrev pub is_going : Stage → Bool
is_going stages.Giving = true
is_going stages.Ending = true
is_going stages.Halting = true
is_going stages.Done = false
is_going (stages.Refused no_) = false

abbrev pub is_at_end : Stage → Bool
is_at_end stages.Giving = false
is_at_end stages.Ending = false
is_at_end stages.Halting = false
is_at_end stages.Done = true
is_at_end (stages.Refused no_) = false

-- after an answer it is done or refused as the answer says, and else goes on
abbrev pub StandsAt : Stage → Result Turned SliceNo → Type 0
StandsAt stage (Ok Moved) = is_going stage ≡ true
StandsAt stage (Ok (Waiting no_)) = is_going stage ≡ true
StandsAt stage (Ok Done) = stage ≡ stages.Done
StandsAt stage (Err no_) = stage ≡ stages.Refused no_

-- ---- answers

abbrev pub is_done : Turned → Bool
is_done Moved = false
is_done (Waiting no_) = false
is_done Done = true

abbrev pub TurnWaits : Result Turned SliceNo → Type 0
TurnWaits result = result ≡ Ok (Waiting Busy)

-- the call did nothing, and is to be made again
abbrev pub is_waiting : PortReply → Bool
is_waiting reply.Did = false
is_waiting (reply.Gave parcel) = false
is_waiting (reply.Refused Full) = true
is_waiting (reply.Refused Empty) = true
is_waiting (reply.Refused Stopped) = false
is_waiting (reply.Refused Ended) = false
is_waiting (reply.Refused (TooLong key)) = false
is_waiting (reply.Refused Busy) = true
is_waiting (reply.Refused Memory) = false

-- a call was made that got somewhere; halts do
abbrev pub MadeCall : List Step → Type 0
MadeCall more = (s : Step) × (more ≡ s ∷ []) × ((is_halt s.entry.ask ≡ true) ⊎ (is_waiting s.entry.reply ≡ false))

-- the call was answered so; a call that was answered Busy is in no log
abbrev pub WaitsBy : PortNo → List Step → Type 0
WaitsBy Full more = (s : Step) × (more ≡ s ∷ []) × (s.entry.reply ≡ reply.Refused Full)
WaitsBy Empty more = (s : Step) × (more ≡ s ∷ []) × (s.entry.reply ≡ reply.Refused Empty)
WaitsBy Stopped more = ⊥
WaitsBy Ended more = ⊥
WaitsBy (TooLong key) more = ⊥
WaitsBy Busy more = more ≡ []
WaitsBy Memory more = ⊥

-- Moved: a call got somewhere, a row was let out, or a row was for receivers that want no more, and then less is left to do. Done
-- comes without a call.
abbrev pub Tells : (old new : Working) → (more : List Step) → List Line → Turned → Type 0
Tells old new more rows Moved = MadeCall more ⊎ ((rows ≢ []) ⊎ (work new < work old))
Tells old new more rows (Waiting no_) = WaitsBy no_ more
Tells old new more rows Done = more ≡ []

-- ---- a turn

abbrev pub after : Course → List Step → List Line → Turned → Course
after c more rows turned = record { steps = c.steps ++ more; let_out = c.let_out ++ rows; done = is_done turned }

abbrev pub refused_after : Course → List Step → Course
refused_after c more = record { steps = c.steps ++ more; let_out = c.let_out; done = c.done }

-- What a turn leaves, by its answer. It lets out one row at most. After Malformed and Memory nothing is said of the last call.
abbrev pub LeavesTurn : Worker → Part → (old new : Working) → Course → (more : List Step) → Result Turned SliceNo → Type 0
LeavesTurn w part old new c more (Ok turned) = (rows : List Line) × (length rows ≤ 1) × Works w part new (after c more rows turned) × Tells old new more rows turned
LeavesTurn w part old new c more (Err (why.TooLong key)) = ((s : Step) × (more ≡ s ∷ []) × (s.entry.reply ≡ reply.Refused (TooLong key))) × Works w part new (refused_after c more)
LeavesTurn w part old new c more (Err (why.Malformed key)) = (s : Step) × (more ≡ s ∷ []) × IsSpoilt part c.steps key s
LeavesTurn w part old new c more (Err (why.Overflow node)) = (more ≡ []) × Overflowed part c.steps node × Works w part new (refused_after c more)
LeavesTurn w part old new c more (Err why.Memory) = Unit {0}

-- a turn after these steps: the one step that it adds, if any, and what it leaves
pub record Turns (w : Worker) (part : Part) (old new : Working) (c : Course) (now : List PortEntry) (result : Result Turned SliceNo) : Type 0 where
  pub more : List Step
  pub log : now ≡ calls_of (c.steps ++ more)
  pub once : length more ≤ 1
  pub leaves : LeavesTurn w part old new c more result

-- whatever worker's slice it is, and whatever it did
abbrev pub TurnsAny : (old new : Working) → (log now : List PortEntry) → Result Turned SliceNo → Type 0
TurnsAny old new log now result = (w : Worker) (part : Part) (c : Course) → is_going old.stage ≡ true → calls_of c.steps ≡ log → Works w part old c → Turns w part old new c now result
