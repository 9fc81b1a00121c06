-- The turns of one worker: what each was answered, and the entry of its call.
use Rattle.std.specs.Prelude.{◌≡◌, ◌⊎◌, ℕ, ◌==◌, ℤ, Bool, true, false, ◌&&◌, ◌≤◌, List, [], ◌∷◌, length, if◌then◌else◌, Option, Some, None, Ok, Err}
use Rattle.std.specs.List.{flat_map}
use Rattle.std.specs.Ordering.{int_eq}
use Rattle.ic_base.specs.declared.keys.ConnEnd.{ConnEnd}
use Rattle.ic_base.specs.declared.port.PortNo.{PortNo}
use Rattle.ic_base.specs.declared.port.PortNo.TheVariants as port
use Rattle.ic_base.specs.declared.port.PortReply.TheVariants as reply
use Rattle.ic_base.specs.declared.port.PortEntry.{PortEntry}
use Rattle.ic_law.specs.declared.history.Entry.{Entry}
use Rattle.pl_runs.specs.Logs.{log_of}
use Rattle.ex_slice.specs.declared.stage.Stage.{Stage}
use Rattle.ex_slice.specs.declared.stage.Turned.TheVariants.{Moved, Waiting, Done}
use Rattle.ex_slice.specs.declared.stage.SliceNo.TheVariants as why
use Rattle.ex_slice.specs.Turning.{is_going, StandsAt}
use Rattle.gd_world.specs.declared.step.Step.{Step}
use Rattle.gd_world.specs.declared.step.Step.TheVariants as step
use Rattle.gd_world.specs.Doings.{Answer}
use Rattle.gd_world.specs.Events.{Event, entries_in}

pub record Taken : Type 0 where
  pub answer : Answer
  pub entry : Option Entry

-- ---- the turns among events

abbrev pub is_of : ℕ → ℤ → Step → Bool
is_of slice at (step.Begin a) = false
is_of slice at (step.Turn s a) = (s == slice) && int_eq a at
is_of slice at (step.Deliver number to) = false
is_of slice at (step.Tick a) = false
is_of slice at (step.Leave a) = false

abbrev pub taken_with : Option Answer → Option Entry → List Taken
taken_with None entry = []
taken_with (Some answer) entry = record { answer = answer; entry = entry } ∷ []

abbrev pub taken_in : ℕ → ℤ → Event → List Taken
taken_in slice at e = if is_of slice at e.did.step then taken_with e.did.turned e.entry else []

-- the turns that the worker of a slice at a segment took, in order
abbrev pub turns_of : ℕ → ℤ → List Event → List Taken
turns_of slice at es = flat_map (taken_in slice at) es

-- ---- what they log

-- what a turn's call adds to the log of the worker with these ends
abbrev pub logs_turn : List ConnEnd → Taken → List PortEntry
logs_turn ends t = log_of ends (entries_in t.entry)

abbrev pub logged_by : List ConnEnd → List Taken → List PortEntry
logged_by ends ts = flat_map (logs_turn ends) ts

-- ---- what they were answered

abbrev pub last_answer : List Taken → Option Answer
last_answer [] = None
last_answer (t ∷ []) = Some t.answer
last_answer (t ∷ u ∷ ts) = last_answer (u ∷ ts)

-- it was answered that the slice is done
abbrev pub says_done : Option Answer → Bool
says_done None = false
says_done (Some (Ok Moved)) = false
says_done (Some (Ok (Waiting refusal))) = false
says_done (Some (Ok Done)) = true
says_done (Some (Err refusal)) = false

-- the worker of a slice at a segment is done: its last turn was answered so
abbrev pub is_done : ℕ → ℤ → List Event → Bool
is_done slice at es = says_done (last_answer (turns_of slice at es))

-- a slice goes on, is done or is refused as its last turn was answered
abbrev pub StandsBy : Stage → Option Answer → Type 0
StandsBy stage None = is_going stage ≡ true
StandsBy stage (Some answer) = StandsAt stage answer

-- the one call that was logged was answered so
abbrev pub IsOne : (PortEntry → Type 0) → List PortEntry → Type 0
IsOne P log = (x : PortEntry) × (log ≡ x ∷ []) × P x

abbrev pub WasRefused : PortNo → PortEntry → Type 0
WasRefused no_ x = x.reply ≡ reply.Refused no_

-- The answer of a turn says what its call was answered. A turn of a slice that is done, or that was refused before, makes no
-- call, and a world's node never answers Busy.
abbrev pub Answers : Answer → List PortEntry → Type 0
Answers (Ok Moved) log = length log ≤ 1
Answers (Ok (Waiting port.Full)) log = IsOne (WasRefused port.Full) log
Answers (Ok (Waiting port.Empty)) log = IsOne (WasRefused port.Empty) log
Answers (Ok (Waiting port.Stopped)) log = ⊥
Answers (Ok (Waiting port.Ended)) log = ⊥
Answers (Ok (Waiting (port.TooLong key))) log = ⊥
Answers (Ok (Waiting port.Busy)) log = ⊥
Answers (Ok (Waiting port.Memory)) log = ⊥
Answers (Ok Done) log = log ≡ []
Answers (Err (why.TooLong key)) log = (log ≡ []) ⊎ IsOne (WasRefused (port.TooLong key)) log
Answers (Err (why.Malformed key)) log = (log ≡ []) ⊎ ((x : PortEntry) × (log ≡ x ∷ []))
Answers (Err (why.Overflow node)) log = log ≡ []
Answers (Err why.Memory) log = Unit {0}

abbrev pub AnswersTurn : List ConnEnd → Taken → Type 0
AnswersTurn ends t = Answers t.answer (logs_turn ends t)
