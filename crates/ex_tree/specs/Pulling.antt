-- What a pull of a tree does: the call that it makes, and what it gives.
use Rattle.std.specs.Prelude.{◌≡◌, ℕ, Bool, true, false, List, [], ◌∷◌, ◌++◌, Contains, Result, Ok, Err}
use Rattle.ic_base.specs.declared.datagram.Parcel.{Parcel}
use Rattle.ic_base.specs.declared.keys.ConnKey.{ConnKey}
use Rattle.ic_base.specs.declared.port.PortNo.{PortNo}
use Rattle.ic_base.specs.declared.port.PortNo.TheVariants.{Full, Empty, Stopped, Ended, TooLong, Busy, Memory}
use Rattle.ic_base.specs.declared.port.PortReply.TheVariants.{Gave, Refused}
use Rattle.ic_base.specs.declared.port.PortEntry.{PortEntry}
use Rattle.pl_ops.specs.Rows.{Line}
use Rattle.pl_ops.specs.Giving.{IsAll, IsOver}
use Rattle.pl_runs.specs.Steps.{Step, calls_of, parcels_of, parcels_by, takes_of, repeats}
use Rattle.pl_runs.specs.Wanting.{want_in}
use Rattle.pl_runs.specs.Logs.{IsRead, payloads_from}
use Rattle.ic_motion.specs.Answers.{key_from, StepsOnce}
use Rattle.ic_motion.specs.Feeding.{Spoilt}
use Rattle.ic_motion.specs.Pulling.{AtMostOne}
use Rattle.ex_tree.specs.declared.answers.Pulled.{Pulled}
use Rattle.ex_tree.specs.declared.answers.Pulled.TheVariants.{Row, Step as Went, More, Wait, End}
use Rattle.ex_tree.specs.declared.answers.TreeNo.{TreeNo}
use Rattle.ex_tree.specs.declared.answers.TreeNo.TheVariants as why
use Rattle.ex_tree.specs.Parts.{Source, Part, Has, out, wants, Overflowed}
use Rattle.ex_tree.specs.Running.{State, Runs}

-- ---- the call

-- A call takes from a motion of the part, and only what is wanted. All of the output so far was given before, and the output
-- goes on. No answer that comes once comes again, and a parcel is from a sender of the motion.
pub record IsAsked (part : Part) (steps : List Step) (given : List Line) (s : Step) : Type 0 where
  pub source : Source
  pub has : Has part source
  pub takes : takes_of source.end.motion s.entry.ask ≡ true
  pub from : (p : Parcel) → parcels_by s.entry.reply ≡ p ∷ [] → Contains source.senders p.from
  pub all : IsAll (out part steps) given
  pub wanted : want_in s.entry.ask ≡ wants part steps
  pub once : repeats steps s.entry.ask s.entry.reply ≡ false

-- the payloads of a parcel's sender, with this step
abbrev pub payloads_with : Source → List Step → Step → Parcel → List (List ℕ)
payloads_with source steps s p = payloads_from p.from (parcels_of source.end.motion (steps ++ s ∷ []))

-- the rows of the step's parcel are those that it completes, and it spoils no stream
pub record IsSound (part : Part) (steps : List Step) (s : Step) : Type 0 where
  pub read : IsRead steps s
  pub source : Source
  pub has : Has part source
  pub takes : takes_of source.end.motion s.entry.ask ≡ true
  pub sound : (p : Parcel) → parcels_by s.entry.reply ≡ p ∷ [] → Spoilt source.kinds (payloads_with source steps s p) p.last → ⊥

-- its parcel spoils the stream of this connection
pub record IsSpoilt (part : Part) (steps : List Step) (key : ConnKey) (s : Step) : Type 0 where
  pub read : IsRead steps s
  pub source : Source
  pub has : Has part source
  pub p : Parcel
  pub is : s.entry.reply ≡ Gave p
  pub key_is : key ≡ key_from source.end p.from
  pub spoils : Spoilt source.kinds (payloads_with source steps s p) p.last

-- ---- the answer

-- the call that More speaks of: a parcel was taken
abbrev pub TookOne : List Step → Type 0
TookOne more = (s : Step) × (p : Parcel) × (more ≡ s ∷ []) × (s.entry.reply ≡ Gave p)

-- the call that Wait speaks of: one that was answered Empty; one that was answered Busy is in no log
abbrev pub WaitsFor : PortNo → List Step → Type 0
WaitsFor Empty more = (s : Step) × (more ≡ s ∷ []) × (s.entry.reply ≡ Refused Empty)
WaitsFor Busy more = more ≡ []
WaitsFor Full more = ⊥
WaitsFor Stopped more = ⊥
WaitsFor Ended more = ⊥
WaitsFor (TooLong key) more = ⊥
WaitsFor Memory more = ⊥

-- What a pull leaves, by its answer: a row is the next of the output. A row, a step and the end come without a call. At the end
-- the output has ended, and all of it was given. After a refusal nothing is said of the tree.
abbrev pub Leaves : Part → State → (steps more : List Step) → List Line → Result Pulled TreeNo → Type 0
Leaves part new steps more given (Ok (Row row)) = (more ≡ []) × Runs part new steps (given ++ row ∷ [])
Leaves part new steps more given (Ok Went) = (more ≡ []) × Runs part new steps given
Leaves part new steps more given (Ok More) = TookOne more × AtMostOne (IsSound part steps) more × Runs part new (steps ++ more) given
Leaves part new steps more given (Ok (Wait no_)) = WaitsFor no_ more × AtMostOne (IsSound part steps) more × Runs part new (steps ++ more) given
Leaves part new steps more given (Ok End) = (more ≡ []) × IsOver (out part steps) given × Runs part new steps given
Leaves part new steps more given (Err (why.Malformed key)) = (s : Step) × (more ≡ s ∷ []) × IsSpoilt part steps key s
Leaves part new steps more given (Err (why.Overflow node)) = (more ≡ []) × Overflowed part steps node
Leaves part new steps more given (Err why.Memory) = Unit {0}

-- a pull after these steps: the step that it adds, if any, and what it leaves
pub record Pulls (part : Part) (new : State) (steps : List Step) (given : List Line) (now : List PortEntry) (result : Result Pulled TreeNo) : Type 0 where
  pub more : List Step
  pub log : now ≡ calls_of (steps ++ more)
  pub makes : AtMostOne (IsAsked part steps given) more
  pub leaves : Leaves part new steps more given result

-- whatever part it is of, and whatever steps it matched
abbrev pub PullsAny : (old new : State) → (log now : List PortEntry) → Result Pulled TreeNo → Type 0
PullsAny old new log now result = (part : Part) (steps : List Step) (given : List Line) → calls_of steps ≡ log → Runs part old steps given → Pulls part new steps given now result

-- ---- the port

-- whether the port may have been asked
abbrev pub asks : Pulled → Bool
asks (Row row) = false
asks Went = false
asks More = true
asks (Wait no_) = true
asks End = false

abbrev pub TouchesBy : {P : Type 0} → (P → P → Type 0) → P → P → Bool → Type 0
TouchesBy steps old new true = StepsOnce steps old new
TouchesBy steps old new false = new ≡ old

-- no call was made, or one, which changed the port as a call may; and none for a row, a step or the end
abbrev pub Touches : {P : Type 0} → (P → P → Type 0) → P → P → Result Pulled TreeNo → Type 0
Touches steps old new (Ok got) = TouchesBy steps old new (asks got)
Touches steps old new (Err no_) = StepsOnce steps old new

abbrev pub PullWaits : Result Pulled TreeNo → Type 0
PullWaits result = result ≡ Ok (Wait Busy)
