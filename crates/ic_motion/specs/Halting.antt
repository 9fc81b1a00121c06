-- What a halt of the senders does.
use Rattle.std.specs.Prelude.{◌≡◌, ℕ, zero, suc, ◌<◌, ◌≤◌, List, [], ◌∷◌, ◌++◌, length, Bool, true, false, ◌||◌, slice_get, Some, Result, Ok, Err, IfErr}
use Rattle.std.specs.List.{list_all}
use Rattle.ic_base.specs.declared.port.PortNo.{PortNo}
use Rattle.ic_base.specs.declared.port.PortNo.TheVariants.{Full, Empty, Stopped, Ended, TooLong, Busy, Memory}
use Rattle.ic_base.specs.declared.port.PortAsk.TheVariants.{Halt}
use Rattle.ic_base.specs.declared.port.PortReply.TheVariants.{Did}
use Rattle.ic_base.specs.declared.port.PortEntry.{PortEntry}
use Rattle.ic_base.specs.Ports.{did, logged, MayRefuseHalt}
use Rattle.pl_ops.specs.Rows.{Line}
use Rattle.pl_runs.specs.Steps.{Step, calls_of, repeats}
use Rattle.pl_runs.specs.Logs.{IsRead}
use Rattle.ic_motion.specs.declared.answers.Sent.{Sent}
use Rattle.ic_motion.specs.declared.answers.Sent.TheVariants as sent
use Rattle.ic_motion.specs.declared.answers.MotionNo.{MotionNo}
use Rattle.ic_motion.specs.declared.answers.MotionNo.TheVariants as why
use Rattle.ic_motion.specs.Hearing.{has_ended, Lane, Listener, Hears}
use Rattle.ic_motion.specs.Answers.{done_or_more}
use Rattle.ic_motion.specs.Pulling.{AtMostOne}

-- nothing more comes, or is wanted
abbrev pub is_heard : Lane → Bool
is_heard l = l.over || l.halted

abbrev pub all_heard : List Lane → Bool
all_heard lanes = list_all is_heard lanes

abbrev pub halt_at : ℕ → List Lane → List Lane
halt_at k [] = []
halt_at zero (l ∷ lanes) = record l { halted = true } ∷ lanes
halt_at (suc k) (l ∷ lanes) = l ∷ halt_at k lanes

-- the first place of a sender from which more may come, or else their number
pub record IsNextGoing (lanes : List Lane) (result : ℕ) : Type 0 where
  pub most : result ≤ length lanes
  pub left : result < length lanes → (l : Lane) × (slice_get lanes result ≡ Some l) × (is_heard l ≡ false)
  pub none : result ≡ length lanes → all_heard lanes ≡ true

-- what is answered if a halt was refused
abbrev pub halt_refused : PortNo → Result Sent MotionNo
halt_refused Busy = Ok (sent.Wait Busy)
halt_refused Memory = Err why.Memory
halt_refused Full = Err why.Memory
halt_refused Empty = Err why.Memory
halt_refused Stopped = Err why.Memory
halt_refused Ended = Err why.Memory
halt_refused (TooLong key) = Err why.Memory

-- what the answer of a halt makes of the lanes
abbrev pub HaltsBy : (lanes after : List Lane) → ℕ → Result Sent MotionNo → Result (Unit {0}) PortNo → Type 0
HaltsBy lanes after k result (Ok _) = (after ≡ halt_at k lanes) × (result ≡ Ok (done_or_more (all_heard after)))
HaltsBy lanes after k result (Err no_) = (after ≡ lanes) × (result ≡ halt_refused no_)

-- If nothing more comes, or is wanted, of any sender, it is done; else it halts the first other one.
pub data Halting (motion : ℕ) (lanes after : List Lane) (log now : List PortEntry) (result : Result Sent MotionNo) : Type 0 where
  all_were : all_heard lanes ≡ true → after ≡ lanes → now ≡ log → result ≡ Ok sent.Done → Halting motion lanes after log now result
  halts : (k : ℕ) (l : Lane) (answer : Result (Unit {0}) PortNo) → slice_get lanes k ≡ Some l → is_heard l ≡ false → now ≡ logged (Halt motion l.sender) (did answer) log
      → IfErr answer MayRefuseHalt → HaltsBy lanes after k result answer → Halting motion lanes after log now result

-- ---- what it says of the steps

-- a halt of a sender from which more may come, for the first time
pub record IsHalt (m : Listener) (steps : List Step) (s : Step) : Type 0 where
  pub place : ℕ
  pub l : Lane
  pub at : slice_get m.lanes place ≡ Some l
  pub ask : s.entry.ask ≡ Halt m.end.motion l.sender
  pub going : has_ended m.end.motion steps l.sender ≡ false
  pub once : repeats steps s.entry.ask s.entry.reply ≡ false
  pub read : IsRead steps s

-- what a halt says: Done exactly if each sender has ended or is halted
abbrev pub TellsHalt : List Lane → (more : List Step) → Sent → Type 0
TellsHalt lanes more sent.Done = all_heard lanes ≡ true
TellsHalt lanes more sent.More = (all_heard lanes ≡ false) × ((s : Step) × (more ≡ s ∷ []) × (s.entry.reply ≡ Did))
TellsHalt lanes more (sent.Wait Busy) = more ≡ []
TellsHalt lanes more (sent.Wait no_) = ⊥
TellsHalt lanes more sent.AllStopped = ⊥

abbrev pub LeavesHalt : Listener → (steps more : List Step) → List Line → Result Sent MotionNo → Type 0
LeavesHalt new steps more given (Ok answer) = Hears new (steps ++ more) given × TellsHalt new.lanes more answer
LeavesHalt new steps more given (Err why.Memory) = (more ≡ []) × Hears new (steps ++ more) given
LeavesHalt new steps more given (Err no_) = ⊥

-- A halt after these steps: the step that it adds, if any, and what it answers and leaves.
pub record Halted (old new : Listener) (steps : List Step) (given : List Line) (now : List PortEntry) (result : Result Sent MotionNo) : Type 0 where
  pub more : List Step
  pub log : now ≡ calls_of (steps ++ more)
  pub makes : AtMostOne (IsHalt old steps) more
  pub leaves : LeavesHalt new steps more given result
