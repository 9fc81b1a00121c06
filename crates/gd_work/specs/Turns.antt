-- What a turn answers, and how far a worker has come afterwards.
use Rattle.std.specs.Prelude.{◌≡◌, ◌⊎◌, ℕ, ◌≤◌, Result, Ok, Err, Option, Some, None}
use Rattle.ic_base.specs.declared.port.PortNo.TheVariants.{Busy}
use Rattle.ic_base.specs.Ports.{BusyRose}
use Rattle.gd_work.specs.declared.course.Turned.{Turned}
use Rattle.gd_work.specs.declared.course.Turned.TheVariants as turned
use Rattle.gd_work.specs.declared.course.WorkNo.{WorkNo}
use Rattle.gd_work.specs.declared.course.Course.{Course}
use Rattle.gd_work.specs.declared.course.Course.TheVariants.{Going, Done, Refused}

-- how far a worker has come after a turn with this answer
abbrev pub course_behind : Result Turned WorkNo → Course
course_behind (Ok turned.Moved) = Going
course_behind (Ok (turned.Waiting no_)) = Going
course_behind (Ok turned.Done) = Done
course_behind (Err no_) = Refused no_

-- what each further turn answers, if that is settled
abbrev pub settled : Course → Option (Result Turned WorkNo)
settled Going = None
settled Done = Some (Ok turned.Done)
settled (Refused no_) = Some (Err no_)

-- the count of Busy never falls, and if a turn waits for another worker, it rose
pub record WaitsBusy (before now : ℕ) (result : Result Turned WorkNo) : Type 0 where
  pub later : before ≤ now
  pub rose : result ≡ Ok (turned.Waiting Busy) → BusyRose before now

-- a turn made no call, or one call, which changed the port as a call may
abbrev pub StepsOnce : {P : Type 0} → (P → P → Type 0) → P → P → Type 0
StepsOnce steps old new = (new ≡ old) ⊎ steps old new
