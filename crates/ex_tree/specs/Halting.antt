-- What a halt of a tree does: no more is wanted of one sender.
use Rattle.std.specs.Prelude.{◌≡◌, ℕ, ℤ, Bool, true, false, ◌||◌, List, [], ◌∷◌, ◌++◌, Contains, Result, Ok, Err}
use Rattle.ic_base.specs.declared.port.PortNo.TheVariants.{Busy}
use Rattle.ic_base.specs.declared.port.PortAsk.TheVariants.{Halt}
use Rattle.ic_base.specs.declared.port.PortEntry.{PortEntry}
use Rattle.pl_ops.specs.Rows.{Line}
use Rattle.pl_runs.specs.Steps.{Step, calls_of, input_of, halted_from}
use Rattle.pl_runs.specs.Logs.{IsRead}
use Rattle.ic_motion.specs.declared.answers.Sent.{Sent}
use Rattle.ic_motion.specs.declared.answers.Sent.TheVariants.{Done, More, Wait, AllStopped}
use Rattle.ic_motion.specs.Answers.{StepsOnce}
use Rattle.ic_motion.specs.Pulling.{AtMostOne}
use Rattle.ex_tree.specs.declared.answers.TreeNo.{TreeNo}
use Rattle.ex_tree.specs.declared.answers.TreeNo.TheVariants as why
use Rattle.ex_tree.specs.Parts.{Source, Part, Has}
use Rattle.ex_tree.specs.Running.{State, Runs}

-- the end of the sender's stream was taken, or the sender was halted
abbrev pub heard_from : ℕ → ℤ → List Step → Bool
heard_from motion sender steps = (input_of motion steps).whole sender || halted_from motion sender steps

-- each sender of each motion is heard out
abbrev pub AllHeard : Part → List Step → Type 0
AllHeard part steps = (source : Source) → Has part source → (sender : ℤ) → Contains source.senders sender → heard_from source.end.motion sender steps ≡ true

-- a halt of a sender that isn't heard out
pub record IsHalted (part : Part) (steps : List Step) (s : Step) : Type 0 where
  pub source : Source
  pub has : Has part source
  pub sender : ℤ
  pub ask : s.entry.ask ≡ Halt source.end.motion sender
  pub going : heard_from source.end.motion sender steps ≡ false
  pub read : IsRead steps s

-- a call was made
abbrev pub MadeOne : List Step → Type 0
MadeOne more = (s : Step) × (more ≡ s ∷ [])

-- Done exactly if each sender was heard out before; then no call is made. More says that one was made. After a refusal nothing is said of the tree.
abbrev pub LeavesHalt : Part → State → (steps more : List Step) → List Line → Result Sent TreeNo → Type 0
LeavesHalt part new steps more given (Ok Done) = (more ≡ []) × AllHeard part steps × Runs part new steps given
LeavesHalt part new steps more given (Ok More) = (AllHeard part steps → ⊥) × MadeOne more × Runs part new (steps ++ more) given
LeavesHalt part new steps more given (Ok (Wait no_)) = (more ≡ []) × (no_ ≡ Busy) × Runs part new steps given
LeavesHalt part new steps more given (Ok AllStopped) = ⊥
LeavesHalt part new steps more given (Err (why.Malformed key)) = ⊥
LeavesHalt part new steps more given (Err (why.Overflow node)) = ⊥
LeavesHalt part new steps more given (Err why.Memory) = more ≡ []

-- a halt after these steps: the step that it adds, if any, and what it leaves
pub record Halts (part : Part) (new : State) (steps : List Step) (given : List Line) (now : List PortEntry) (result : Result Sent TreeNo) : Type 0 where
  pub more : List Step
  pub log : now ≡ calls_of (steps ++ more)
  pub makes : AtMostOne (IsHalted part steps) more
  pub leaves : LeavesHalt part new steps more given result

abbrev pub HaltsAny : (old new : State) → (log now : List PortEntry) → Result Sent TreeNo → Type 0
HaltsAny old new log now result = (part : Part) (steps : List Step) (given : List Line) → calls_of steps ≡ log → Runs part old steps given → Halts part new steps given now result

-- no call was made, or one, which changed the port as a call may; and none if it was done
abbrev pub TouchesHalt : {P : Type 0} → (P → P → Type 0) → P → P → Result Sent TreeNo → Type 0
TouchesHalt steps old new (Ok Done) = new ≡ old
TouchesHalt steps old new (Ok More) = StepsOnce steps old new
TouchesHalt steps old new (Ok (Wait no_)) = StepsOnce steps old new
TouchesHalt steps old new (Ok AllStopped) = StepsOnce steps old new
TouchesHalt steps old new (Err no_) = StepsOnce steps old new

abbrev pub HaltWaits : Result Sent TreeNo → Type 0
HaltWaits result = result ≡ Ok (Wait Busy)
