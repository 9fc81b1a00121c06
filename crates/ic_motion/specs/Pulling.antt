-- What a pull does: the call that it makes, and what it gives.
use Rattle.std.specs.Prelude.{◌≡◌, ℕ, ℤ, List, [], ◌∷◌, ◌++◌, true, false, Some, slice_get, Result, Ok, Err, IfErr, IfOk, Contains}
use Rattle.ic_base.specs.declared.datagram.Parcel.{Parcel}
use Rattle.ic_base.specs.declared.keys.ConnEnd.{ConnEnd}
use Rattle.ic_base.specs.declared.keys.ConnKey.{ConnKey}
use Rattle.ic_base.specs.declared.port.PortNo.{PortNo}
use Rattle.ic_base.specs.declared.port.PortNo.TheVariants.{Empty, Busy}
use Rattle.ic_base.specs.declared.port.PortAsk.TheVariants as ask
use Rattle.ic_base.specs.declared.port.PortReply.TheVariants.{Gave, Refused}
use Rattle.ic_base.specs.declared.port.PortEntry.{PortEntry}
use Rattle.ic_base.specs.Ports.{gave, logged, Hears, HearsFrom, MayRefuseTake}
use Rattle.ic_row.specs.declared.value.Kind.{Kind}
use Rattle.pl_ops.specs.Rows.{Line}
use Rattle.pl_ops.specs.Streams.{Stream}
use Rattle.pl_mean.specs.Outputs.{received}
use Rattle.pl_runs.specs.Steps.{Step, calls_of, parcels_of, takes_of, parcels_by, repeats}
use Rattle.pl_runs.specs.Wanting.{want_in, wants_of}
use Rattle.pl_runs.specs.Logs.{IsRead, payloads_from}
use Rattle.ic_motion.specs.declared.answers.Got.{Got}
use Rattle.ic_motion.specs.declared.answers.Got.TheVariants as got
use Rattle.ic_motion.specs.declared.answers.MotionEnd.{MotionEnd}
use Rattle.ic_motion.specs.declared.answers.MotionNo.{MotionNo}
use Rattle.ic_motion.specs.declared.answers.MotionNo.TheVariants as why
use Rattle.ic_motion.specs.declared.picking.Pick.{Pick}
use Rattle.ic_motion.specs.declared.picking.Pick.TheVariants as picks
use Rattle.ic_motion.specs.Answers.{key_from, row_in}
use Rattle.ic_motion.specs.Hearing.{heard_of, HasKinds, Lane, Listener, senders_of, streams_of}
use Rattle.ic_motion.specs.Hearing as hearing
use Rattle.ic_motion.specs.Picking.{answer_of, kept_by}
use Rattle.ic_motion.specs.Feeding.{Spoilt, Takes}

-- ---- connections

-- these are all senders that the worker hears on connections of the motion, and there is one at least
pub record Listens (keys : List ConnEnd) (motion : ℕ) (senders : List ℤ) : Type 0 where
  pub some_ : Hears keys motion
  pub each : (sender : ℤ) → HearsFrom keys motion sender → Contains senders sender
  pub heard : (sender : ℤ) → Contains senders sender → HearsFrom keys motion sender

-- ---- the state after a pull

-- the motion, its order and its kinds are the same
pub record SameIn (old new : Listener) : Type 0 where
  pub end : new.end ≡ old.end
  pub order : new.order ≡ old.order
  pub kinds : new.kinds ≡ old.kinds

-- What a pull does by what is picked: a row or the end, without a call; or a take.
abbrev pub Pulls : Pick → List ConnEnd → MotionEnd → List Kind → (old new : List Lane) → (log now : List PortEntry) → Result Got MotionNo → Type 0
Pulls (picks.Row k) keys end kinds old new log now result = (result ≡ Ok (answer_of (picks.Row k) old)) × (new ≡ kept_by (picks.Row k) old) × (now ≡ log)
Pulls picks.Nothing keys end kinds old new log now result = (result ≡ Ok got.End) × (new ≡ old) × (now ≡ log)
Pulls picks.Any keys end kinds old new log now result =
    (answer : Result Parcel PortNo) × (now ≡ logged (ask.Take end.motion) (gave answer) log) × IfErr answer MayRefuseTake
    × IfOk answer (λ p. Contains (senders_of old) p.from) × Takes end kinds old new result answer
Pulls (picks.One k) keys end kinds old new log now result =
    (l : Lane) × (slice_get old k ≡ Some l) × (answer : Result Parcel PortNo) × (now ≡ logged (ask.TakeFrom end.motion l.sender) (gave answer) log)
    × IfErr answer MayRefuseTake × IfOk answer (λ p. p.from ≡ l.sender) × Takes end kinds old new result answer

-- ---- what it says of the steps

-- what the motion has given, by these steps of its worker
abbrev pub given_of : Listener → List Step → Stream
given_of m steps = received m.order (senders_of m.lanes) (heard_of m.end.motion steps)

-- A call is made only if all that can be given was given, and more may come. It takes what is wanted, and no answer that comes
-- once comes again.
pub record IsTake (m : Listener) (steps : List Step) (given : List Line) (s : Step) : Type 0 where
  pub goes_on : (given_of m steps).ended ≡ false
  pub all : (given_of m steps).rows ≡ given
  pub wanted : want_in s.entry.ask ≡ wants_of m.end.motion m.order (senders_of m.lanes) (heard_of m.end.motion steps)
  pub takes : takes_of m.end.motion s.entry.ask ≡ true
  pub once : repeats steps s.entry.ask s.entry.reply ≡ false

-- one call at most, and so one step at most
abbrev pub AtMostOne : (Step → Type 0) → List Step → Type 0
AtMostOne P [] = Unit {0}
AtMostOne P (s ∷ []) = P s
AtMostOne P (s ∷ t ∷ more) = ⊥

-- an answer, by the rows that the motion has given before this pull: a row is the next of them; More, Wait and End come only if
-- all were given; and End if no more come
abbrev pub Tells : Listener → Stream → List Line → Got → Type 0
Tells m now given (got.Row row) = (rest : List Line) × (now.rows ≡ (given ++ row ∷ []) ++ rest) × HasKinds m.kinds row
Tells m now given got.More = now.rows ≡ given
Tells m now given (got.Wait no_) = now.rows ≡ given
Tells m now given got.End = (now.rows ≡ given) × (now.ended ≡ true)

-- A row and the end come without a call. More says that a parcel was taken, Wait that the call was answered so. A call that was
-- answered Busy isn't in the log.
abbrev pub Answers : Got → List Step → Type 0
Answers (got.Row row) more = more ≡ []
Answers got.More more = (s : Step) × (p : Parcel) × (more ≡ s ∷ []) × (s.entry.reply ≡ Gave p)
Answers (got.Wait Empty) more = (s : Step) × (more ≡ s ∷ []) × (s.entry.reply ≡ Refused Empty)
Answers (got.Wait Busy) more = more ≡ []
Answers (got.Wait no_) more = ⊥
Answers got.End more = more ≡ []

-- a parcel of the step isn't spoilt
abbrev pub IsSound : Listener → List Step → Step → Type 0
IsSound m steps s = (p : Parcel) → parcels_by s.entry.reply ≡ p ∷ [] → Spoilt m.kinds (payloads_from p.from (parcels_of m.end.motion (steps ++ s ∷ []))) p.last → ⊥

-- a parcel of the step is from a sender of the motion
abbrev pub IsFromSender : Listener → Step → Type 0
IsFromSender m s = (p : Parcel) → parcels_by s.entry.reply ≡ p ∷ [] → Contains (senders_of m.lanes) p.from

-- the parcel of the step spoils the stream of this connection
pub record IsSpoilt (m : Listener) (steps : List Step) (key : ConnKey) (s : Step) : Type 0 where
  pub p : Parcel
  pub is : s.entry.reply ≡ Gave p
  pub key_is : key ≡ key_from m.end p.from
  pub spoils : Spoilt m.kinds (payloads_from p.from (parcels_of m.end.motion (steps ++ s ∷ []))) p.last

-- What a pull makes of the state, by its answer. After Memory nothing is said of it.
abbrev pub Leaves : (old new : Listener) → (steps more : List Step) → List Line → Result Got MotionNo → Type 0
Leaves old new steps more given (Ok answer) =
    hearing.Hears new (steps ++ more) (given ++ row_in answer) × Tells old (given_of old steps) given answer × Answers answer more
    × AtMostOne (IsRead steps) more × AtMostOne (IsSound old steps) more
Leaves old new steps more given (Err (why.Malformed key)) = (s : Step) × (more ≡ s ∷ []) × IsRead steps s × IsSpoilt old steps key s
Leaves old new steps more given (Err (why.TooLong key)) = ⊥
Leaves old new steps more given (Err why.Memory) = Unit {0}

-- A pull after these steps: the step that it adds, if any, and what it answers and leaves.
pub record Pulled (old new : Listener) (steps : List Step) (given : List Line) (now : List PortEntry) (result : Result Got MotionNo) : Type 0 where
  pub more : List Step
  pub log : now ≡ calls_of (steps ++ more)
  pub makes : AtMostOne (IsTake old steps given) more
  pub from : AtMostOne (IsFromSender old) more
  pub leaves : Leaves old new steps more given result
