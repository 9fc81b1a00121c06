-- What one call of a sending end does to its receivers and to the row in work.
use Rattle.std.specs.Prelude.{◌≡◌, ◌≢◌, ◌⊎◌, ℕ, zero, suc, ◌<◌, ◌≤◌, List, [], ◌∷◌, length, nat_lt, nat_le, ◌&&◌, Bool, true, false, if◌then◌else◌, slice_get, Some, Result, Ok, Err, IfErr}
use Rattle.ic_base.specs.declared.keys.ConnEnd.{ConnEnd}
use Rattle.ic_base.specs.declared.port.PortNo.{PortNo}
use Rattle.ic_base.specs.declared.port.PortNo.TheVariants.{Full, Empty, Stopped, Ended, TooLong, Busy, Memory}
use Rattle.ic_base.specs.declared.port.PortAsk.TheVariants.{Put, Finish}
use Rattle.ic_base.specs.declared.port.PortEntry.{PortEntry}
use Rattle.ic_base.specs.Ports.{did, logged, MayRefusePut}
use Rattle.pl_ops.specs.Rows.{Line}
use Rattle.pl_ops.specs.Routing.{Route, is_routed}
use Rattle.pl_runs.specs.Slices.{row_chunks}
use Rattle.ic_motion.specs.declared.answers.Sent.{Sent}
use Rattle.ic_motion.specs.declared.answers.Sent.TheVariants as sent
use Rattle.ic_motion.specs.declared.answers.MotionNo.{MotionNo}
use Rattle.ic_motion.specs.declared.answers.MotionNo.TheVariants as why
use Rattle.ic_motion.specs.Sending.{Target, Work, is_over, all_stopped, all_over, goes_to, left_at}
use Rattle.ic_motion.specs.Answers.{done_or_more}

-- ---- places

-- the receiver at this place wants more
abbrev pub IsOpen : List Target → ℕ → Type 0
IsOpen targets place = (t : Target) × (slice_get targets place ≡ Some t) × (t.stopped ≡ false)

-- the first place from `at` on of a receiver that wants more, if there is one before the end
pub record IsNextOpen (targets : List Target) (at end result : ℕ) : Type 0 where
  pub from : at ≤ result
  pub skipped : (place : ℕ) → at ≤ place → place < result → IsOpen targets place → ⊥
  pub open_ : result < end → IsOpen targets result

-- the first place of a receiver for which something is to be done, or else their number
pub record IsNextUnfinished (targets : List Target) (result : ℕ) : Type 0 where
  pub most : result ≤ length targets
  pub left : result < length targets → (t : Target) × (slice_get targets result ≡ Some t) × (is_over t ≡ false)
  pub none : result ≡ length targets → all_over targets ≡ true

abbrev pub stop_at : ℕ → List Target → List Target
stop_at k [] = []
stop_at zero (t ∷ targets) = record t { stopped = true } ∷ targets
stop_at (suc k) (t ∷ targets) = t ∷ stop_at k targets

abbrev pub finish_at : ℕ → List Target → List Target
finish_at k [] = []
finish_at zero (t ∷ targets) = record t { finished = true } ∷ targets
finish_at (suc k) (t ∷ targets) = t ∷ finish_at k targets

-- ---- the row in work

-- no row is in work any more
abbrev pub reset : Work → Work
reset w = record w { first = 0; end = 0; at = 0 }

-- the row goes to the receivers at the places from the first up to the end
abbrev pub GoesTo : Route → ℕ → Line → ℕ → ℕ → Type 0
GoesTo route count row first end = (place : ℕ) → place < count → (nat_le first place && nat_lt place end) ≡ is_routed route count place row

-- a row was taken into work, if none was: all of its chunks are to be put to those to which it is routed
pub data Begins (route : Route) (packet : ℕ) (targets : List Target) (row : Line) (old : Work) : Work → Type 0 where
  goes_on : (0 < old.end) → Begins route packet targets row old old
  begins : (new : Work) → old.end ≡ 0
      → ((place : ℕ) → place < length targets → left_at place new ≡ (if is_routed route (length targets) place row then row_chunks packet row else [])) → Begins route packet targets row old new

-- for each receiver that wants more the same is to be put as was
abbrev pub LeavesSame : List Target → (old new : Work) → Type 0
LeavesSame targets old new = (place : ℕ) → IsOpen targets place → left_at place new ≡ left_at place old

-- each receiver that wants more has the chunk
abbrev pub HasRest : List Target → Work → Type 0
HasRest targets w = (place : ℕ) → IsOpen targets place → left_at place w ≡ (if goes_to place w then w.rest else [])

-- Nothing else is to be put than was; if a chunk is found, it is next for the receiver at the place, which wants more; else nothing is
-- to be put for a receiver that wants more.
pub record Settles (targets : List Target) (old new : Work) (found : Bool) : Type 0 where
  pub same : LeavesSame targets old new
  pub next : found ≡ true → IsOpen targets new.at × (goes_to new.at new ≡ true) × (new.chunk ≢ [])
  pub none : found ≡ false → (place : ℕ) → IsOpen targets place → left_at place new ≡ []

-- what is left then, and what is answered: more is to be put, or the row is done
abbrev pub Rests : List Target → (old new : Work) → Result Sent MotionNo → Type 0
Rests targets old new (Ok sent.More) = Settles targets old new true
Rests targets old new (Ok sent.Done) = (w : Work) × Settles targets old w false × (new ≡ reset w)
Rests targets old new (Ok (sent.Wait no_)) = ⊥
Rests targets old new (Ok sent.AllStopped) = ⊥
Rests targets old new (Err why.Memory) = LeavesSame targets old new
Rests targets old new (Err (why.TooLong key)) = ⊥
Rests targets old new (Err (why.Malformed key)) = ⊥

-- after a receiver stopped: all have, or more is to be put, or the row is done
abbrev pub AfterStop : List Target → (old new : Work) → Result Sent MotionNo → Type 0
AfterStop targets old new result = ((all_stopped targets ≡ true) × (result ≡ Ok sent.AllStopped) × (new ≡ reset old)) ⊎ ((all_stopped targets ≡ false) × Rests targets old new result)

-- what the answer of a put makes of them
abbrev pub PutsBy : (targets after : List Target) → (old new : Work) → Result Sent MotionNo → Result (Unit {0}) PortNo → Type 0
PutsBy targets after old new result (Ok _) = (after ≡ targets) × Rests targets (record old { at = suc old.at }) new result
PutsBy targets after old new result (Err Stopped) =
    (after ≡ stop_at old.at targets) × AfterStop after old new result
PutsBy targets after old new result (Err Full) = (after ≡ targets) × (new ≡ old) × (result ≡ Ok (sent.Wait Full))
PutsBy targets after old new result (Err Busy) = (after ≡ targets) × (new ≡ old) × (result ≡ Ok (sent.Wait Busy))
PutsBy targets after old new result (Err (TooLong key)) = (after ≡ targets) × (new ≡ old) × (result ≡ Err (why.TooLong key))
PutsBy targets after old new result (Err Empty) = (after ≡ targets) × (new ≡ old) × (result ≡ Err why.Memory)
PutsBy targets after old new result (Err Ended) = (after ≡ targets) × (new ≡ old) × (result ≡ Err why.Memory)
PutsBy targets after old new result (Err Memory) = (after ≡ targets) × (new ≡ old) × (result ≡ Err why.Memory)

-- the chunk was put to the receiver at the place, was answered so, and the log has it
pub record Puts (keys : List ConnEnd) (motion : ℕ) (targets after : List Target) (old new : Work) (log now : List PortEntry) (result : Result Sent MotionNo) : Type 0 where
  pub t : Target
  pub at : slice_get targets old.at ≡ Some t
  pub answer : Result (Unit {0}) PortNo
  pub entry : now ≡ logged (Put motion t.to old.chunk) (did answer) log
  pub may : IfErr answer (MayRefusePut keys motion t.to)
  pub makes : PutsBy targets after old new result answer

-- What a send does. If no receiver wants more, it says so. Else the row is in work or begins; if a chunk is to be put, it is put, and
-- if none is, the row is done.
pub data Sending (keys : List ConnEnd) (motion : ℕ) (route : Route) (packet : ℕ) (targets after : List Target) (row : Line) (old new : Work) (log now : List PortEntry) (result : Result Sent MotionNo) : Type 0 where
  all_did : all_stopped targets ≡ true → after ≡ targets → new ≡ reset old → now ≡ log → result ≡ Ok sent.AllStopped → Sending keys motion route packet targets after row old new log now result
  lacks : all_stopped targets ≡ false → after ≡ targets → new ≡ old → now ≡ log → result ≡ Err why.Memory → Sending keys motion route packet targets after row old new log now result
  fails : (w : Work) → all_stopped targets ≡ false → Begins route packet targets row old w → LeavesSame targets w new → after ≡ targets → now ≡ log → result ≡ Err why.Memory
      → Sending keys motion route packet targets after row old new log now result
  skips : (w v : Work) → all_stopped targets ≡ false → Begins route packet targets row old w → Settles targets w v false → new ≡ reset v → after ≡ targets → now ≡ log → result ≡ Ok sent.Done
      → Sending keys motion route packet targets after row old new log now result
  puts : (w v : Work) → all_stopped targets ≡ false → Begins route packet targets row old w → Settles targets w v true → Puts keys motion targets after v new log now result
      → Sending keys motion route packet targets after row old new log now result

-- ---- an end

abbrev pub stopped_or : Bool → Sent → Sent
stopped_or true other = sent.AllStopped
stopped_or false other = other

-- what the answer of a finish makes of the receivers
abbrev pub EndsBy : (targets after : List Target) → ℕ → Result Sent MotionNo → Result (Unit {0}) PortNo → Type 0
EndsBy targets after k result (Ok _) = (after ≡ finish_at k targets) × (result ≡ Ok (done_or_more (all_over after)))
EndsBy targets after k result (Err Stopped) = (after ≡ stop_at k targets) × (result ≡ Ok (stopped_or (all_stopped after) (done_or_more (all_over after))))
EndsBy targets after k result (Err Full) = (after ≡ targets) × (result ≡ Ok (sent.Wait Full))
EndsBy targets after k result (Err Busy) = (after ≡ targets) × (result ≡ Ok (sent.Wait Busy))
EndsBy targets after k result (Err (TooLong key)) = (after ≡ targets) × (result ≡ Err (why.TooLong key))
EndsBy targets after k result (Err Empty) = (after ≡ targets) × (result ≡ Err why.Memory)
EndsBy targets after k result (Err Ended) = (after ≡ targets) × (result ≡ Err why.Memory)
EndsBy targets after k result (Err Memory) = (after ≡ targets) × (result ≡ Err why.Memory)

-- What an end does. If no receiver wants more, it says so, and if all are over, it is done; else it finishes the first that isn't.
pub data Ending (keys : List ConnEnd) (motion : ℕ) (targets after : List Target) (log now : List PortEntry) (result : Result Sent MotionNo) : Type 0 where
  had_stopped : all_stopped targets ≡ true → after ≡ targets → now ≡ log → result ≡ Ok sent.AllStopped → Ending keys motion targets after log now result
  was_over : all_stopped targets ≡ false → all_over targets ≡ true → after ≡ targets → now ≡ log → result ≡ Ok sent.Done → Ending keys motion targets after log now result
  ends : (k : ℕ) (t : Target) (answer : Result (Unit {0}) PortNo) → all_stopped targets ≡ false → slice_get targets k ≡ Some t → is_over t ≡ false
      → now ≡ logged (Finish motion t.to) (did answer) log → IfErr answer (MayRefusePut keys motion t.to) → EndsBy targets after k result answer → Ending keys motion targets after log now result
