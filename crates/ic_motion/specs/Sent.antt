-- What a send and an end say of the steps of the worker.
use Rattle.std.specs.Prelude.{◌≡◌, ◌⊎◌, ℕ, ◌<◌, ℤ, List, [], ◌∷◌, ◌++◌, length, true, false, slice_get, Some, Result, Ok, Err}
use Rattle.ic_base.specs.declared.port.PortNo.TheVariants.{Full, Stopped, TooLong, Busy}
use Rattle.ic_base.specs.declared.port.PortAsk.TheVariants.{Put, Finish}
use Rattle.ic_base.specs.declared.port.PortReply.{PortReply}
use Rattle.ic_base.specs.declared.port.PortReply.TheVariants.{Did, Gave, Refused}
use Rattle.ic_base.specs.declared.port.PortEntry.{PortEntry}
use Rattle.pl_ops.specs.Rows.{Line}
use Rattle.pl_ops.specs.Routing.{routed}
use Rattle.pl_runs.specs.Steps.{Step, calls_of, put_on, stopped_on, finished_on}
use Rattle.pl_runs.specs.Slices.{cut}
use Rattle.ic_motion.specs.declared.answers.Sent.{Sent}
use Rattle.ic_motion.specs.declared.answers.Sent.TheVariants as sent
use Rattle.ic_motion.specs.declared.answers.MotionNo.{MotionNo}
use Rattle.ic_motion.specs.declared.answers.MotionNo.TheVariants as why
use Rattle.ic_motion.specs.Sending.{route_by, Target, Sender, receivers_of, all_stopped, all_over, IsIdle, Sends, AreServed, handed}
use Rattle.ic_motion.specs.Pulling.{AtMostOne}

-- the motion and its receivers are the same
pub record SameOut (old new : Sender) : Type 0 where
  pub motion : new.motion ≡ old.motion
  pub kind : new.kind ≡ old.kind
  pub packet : new.packet ≡ old.packet
  pub receivers : receivers_of new.targets ≡ receivers_of old.targets

-- no step is on a connection of the motion that sends
abbrev pub IsUnsent : ℕ → List Step → Type 0
IsUnsent motion steps = (to : ℤ) → (put_on motion to steps ≡ []) × (stopped_on motion to steps ≡ false) × (finished_on motion to steps ≡ false)

-- a put to a receiver that wants more, and whose stream isn't finished
pub record IsPut (m : Sender) (steps : List Step) (s : Step) : Type 0 where
  pub place : ℕ
  pub t : Target
  pub chunk : List ℕ
  pub at : slice_get m.targets place ≡ Some t
  pub ask : s.entry.ask ≡ Put m.motion t.to chunk
  pub stopped : stopped_on m.motion t.to steps ≡ false
  pub finished : finished_on m.motion t.to steps ≡ false
  pub rows : s.rows ≡ []

-- the end of a stream of which all was put, to a receiver that wants more, and for the first time
pub record IsFinish (m : Sender) (steps : List Step) (rows : List Line) (s : Step) : Type 0 where
  pub place : ℕ
  pub t : Target
  pub at : slice_get m.targets place ≡ Some t
  pub ask : s.entry.ask ≡ Finish m.motion t.to
  pub stopped : stopped_on m.motion t.to steps ≡ false
  pub finished : finished_on m.motion t.to steps ≡ false
  pub all : put_on m.motion t.to steps ≡ cut m.packet (routed (route_by m.kind) (length m.targets) place rows)
  pub rows_are : s.rows ≡ []

-- the call was done, or the receiver wants no more
abbrev pub IsAnswered : PortReply → Type 0
IsAnswered Did = Unit {0}
IsAnswered (Gave parcel) = ⊥
IsAnswered (Refused Stopped) = Unit {0}
IsAnswered (Refused _) = ⊥

abbrev pub WasAnswered : List Step → Type 0
WasAnswered more = (s : Step) × (more ≡ s ∷ []) × IsAnswered s.entry.reply

-- a call that was answered Full is in the log, and one that was answered Busy isn't
abbrev pub Waits : Sent → List Step → Type 0
Waits (sent.Wait Full) more = (s : Step) × (more ≡ s ∷ []) × (s.entry.reply ≡ Refused Full)
Waits (sent.Wait Busy) more = more ≡ []
Waits (sent.Wait no_) more = ⊥
Waits sent.More more = ⊥
Waits sent.Done more = ⊥
Waits sent.AllStopped more = ⊥

-- a call that was made was done, or the receiver wants no more
abbrev pub IfMadeAnswered : List Step → Type 0
IfMadeAnswered more = AtMostOne (λ s. IsAnswered s.entry.reply) more

-- a row is in work, and some receiver that wants more lacks a chunk of it
pub record IsUnserved (m : Sender) (steps : List Step) (rows : List Line) : Type 0 where
  pub in_work : 0 < m.work.end
  pub lacks : AreServed m steps rows → ⊥

-- what a send says: AllStopped exactly if each receiver has stopped; else Done exactly if each receiver that wants more has all chunks
abbrev pub TellsSend : Sender → (steps more : List Step) → List Line → Sent → Type 0
TellsSend new steps more rows sent.AllStopped = (all_stopped new.targets ≡ true) × IsIdle new.work × IfMadeAnswered more
TellsSend new steps more rows sent.Done = (all_stopped new.targets ≡ false) × AreServed new (steps ++ more) rows × IsIdle new.work × IfMadeAnswered more
TellsSend new steps more rows sent.More = (all_stopped new.targets ≡ false) × IsUnserved new (steps ++ more) rows × WasAnswered more
TellsSend new steps more rows (sent.Wait no_) = (all_stopped new.targets ≡ false) × IsUnserved new (steps ++ more) rows × Waits (sent.Wait no_) more

-- a refusal that the port's call was answered with
abbrev pub IsRefusal : MotionNo → List Step → Type 0
IsRefusal (why.TooLong key) more = (s : Step) × (more ≡ s ∷ []) × (s.entry.reply ≡ Refused (TooLong key))
IsRefusal (why.Malformed key) more = ⊥
IsRefusal why.Memory more = Unit {0}

abbrev pub LeavesSend : (old new : Sender) → (steps more : List Step) → List Line → Line → Result Sent MotionNo → Type 0
LeavesSend old new steps more rows row (Ok answer) = Sends new (steps ++ more) (handed old.work rows row) × TellsSend new steps more (handed old.work rows row) answer
LeavesSend old new steps more rows row (Err no_) = (taken : List Line) × ((taken ≡ rows) ⊎ (taken ≡ handed old.work rows row)) × Sends new (steps ++ more) taken × IsRefusal no_ more

-- A send after these steps, which handed in these rows: the step that it adds, if any, and what it answers and leaves.
pub record SendsBy (old new : Sender) (steps : List Step) (rows : List Line) (row : Line) (now : List PortEntry) (result : Result Sent MotionNo) : Type 0 where
  pub more : List Step
  pub log : now ≡ calls_of (steps ++ more)
  pub makes : AtMostOne (IsPut old steps) more
  pub leaves : LeavesSend old new steps more rows row result

-- what an end says: AllStopped exactly if each receiver has stopped; else Done exactly if each is finished or has stopped
abbrev pub TellsEnd : Sender → (more : List Step) → Sent → Type 0
TellsEnd new more sent.AllStopped = (all_stopped new.targets ≡ true) × IfMadeAnswered more
TellsEnd new more sent.Done = (all_stopped new.targets ≡ false) × (all_over new.targets ≡ true) × IfMadeAnswered more
TellsEnd new more sent.More = (all_stopped new.targets ≡ false) × (all_over new.targets ≡ false) × WasAnswered more
TellsEnd new more (sent.Wait no_) = (all_stopped new.targets ≡ false) × (all_over new.targets ≡ false) × Waits (sent.Wait no_) more

abbrev pub LeavesEnd : Sender → (steps more : List Step) → List Line → Result Sent MotionNo → Type 0
LeavesEnd new steps more rows (Ok answer) = Sends new (steps ++ more) rows × TellsEnd new more answer
LeavesEnd new steps more rows (Err no_) = Sends new (steps ++ more) rows × IsRefusal no_ more

-- An end after these steps.
pub record EndsAfter (old new : Sender) (steps : List Step) (rows : List Line) (now : List PortEntry) (result : Result Sent MotionNo) : Type 0 where
  pub more : List Step
  pub log : now ≡ calls_of (steps ++ more)
  pub makes : AtMostOne (IsFinish old steps rows) more
  pub leaves : LeavesEnd new steps more rows result
