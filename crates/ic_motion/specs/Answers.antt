-- What a pull answers, and how the answer is read.
use Rattle.std.specs.Prelude.{◌≡◌, ◌⊎◌, ℕ, ◌<◌, ◌≤◌, ℤ, Bool, true, false, List, [], ◌∷◌, Option, Some, None, Result, Ok, Err}
use Rattle.ic_base.specs.declared.keys.ConnKey.{ConnKey}
use Rattle.ic_base.specs.declared.port.PortNo.TheVariants.{Busy}
use Rattle.ic_base.specs.Ports.{BusyRose}
use Rattle.pl_ops.specs.Rows.{Line}
use Rattle.ic_motion.specs.declared.answers.Got.{Got}
use Rattle.ic_motion.specs.declared.answers.Got.TheVariants as got
use Rattle.ic_motion.specs.declared.answers.Sent.{Sent}
use Rattle.ic_motion.specs.declared.answers.Sent.TheVariants as sent
use Rattle.ic_motion.specs.declared.answers.MotionNo.{MotionNo}
use Rattle.ic_motion.specs.declared.answers.MotionEnd.{MotionEnd}

-- ---- names

-- the connection of a motion from a sender to the segment that receives
abbrev pub key_from : MotionEnd → ℤ → ConnKey
key_from end sender = record { session = end.session; query = end.query; motion = end.motion; from = sender; to = end.at }

-- ---- refusals

-- what is refused from now on, after an answer
abbrev pub refused_by : {A : Type 0} → Result A MotionNo → Option MotionNo
refused_by (Ok answer) = None
refused_by (Err no_) = Some no_

-- ---- calls that are made several times

-- done if all are over, and else more is to be done
abbrev pub done_or_more : Bool → Sent
done_or_more true = sent.Done
done_or_more false = sent.More

-- ---- a pull

-- the rows that an answer gives
abbrev pub row_in : Got → List Line
row_in (got.Row row) = row ∷ []
row_in got.More = []
row_in (got.Wait no_) = []
row_in got.End = []

-- ---- the port

-- no call was made, or one, which changed the port as a call may
abbrev pub StepsOnce : {P : Type 0} → (P → P → Type 0) → P → P → Type 0
StepsOnce steps old new = (new ≡ old) ⊎ steps old new

-- a row and the end come without a call
abbrev pub Touches : {P : Type 0} → (P → P → Type 0) → P → P → Result Got MotionNo → Type 0
Touches steps old new (Ok (got.Row row)) = new ≡ old
Touches steps old new (Ok got.End) = new ≡ old
Touches steps old new (Ok got.More) = StepsOnce steps old new
Touches steps old new (Ok (got.Wait no_)) = StepsOnce steps old new
Touches steps old new (Err no_) = StepsOnce steps old new

-- what a pull that called its port may answer
abbrev pub IsAfterCall : Result Got MotionNo → Type 0
IsAfterCall (Ok (got.Row row)) = ⊥
IsAfterCall (Ok got.End) = ⊥
IsAfterCall (Ok got.More) = Unit {0}
IsAfterCall (Ok (got.Wait no_)) = Unit {0}
IsAfterCall (Err no_) = Unit {0}

-- of the rows held before and after: a row that is given is one less, and the end leaves none more
abbrev pub RowsFall : Got → ℕ → ℕ → Type 0
RowsFall (got.Row row) old new = new < old
RowsFall got.More old new = Unit {0}
RowsFall (got.Wait no_) old new = Unit {0}
RowsFall got.End old new = new ≤ old

-- the count of Busy never falls, and if the answer is to wait for another worker, it rose
pub record WaitsBusy (before now : ℕ) (waits : Type 0) : Type 0 where
  pub later : before ≤ now
  pub rose : waits → BusyRose before now

abbrev pub PullWaits : Result Got MotionNo → Type 0
PullWaits result = result ≡ Ok (got.Wait Busy)

abbrev pub SendWaits : Result Sent MotionNo → Type 0
SendWaits result = result ≡ Ok (sent.Wait Busy)
