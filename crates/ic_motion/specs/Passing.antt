-- Calls of a worker for other motions.
use Rattle.std.specs.Prelude.{◌≡◌, ℕ, ℤ, List, [], ◌∷◌, ◌++◌, false}
use Rattle.pl_ops.specs.Rows.{Line}
use Rattle.pl_runs.specs.Steps.{Step, sends_on, takes_of, halts_from}
use Rattle.ic_motion.specs.Hearing.{Listener, Hears}
use Rattle.ic_motion.specs.Sending.{Sender, Sends}

-- the call puts and finishes nothing of this motion
abbrev pub SendsElsewhere : ℕ → Step → Type 0
SendsElsewhere motion s = (to : ℤ) → sends_on motion to s.entry.ask ≡ false

-- the call takes nothing of this motion, and halts no sender of it
pub record HearsElsewhere (motion : ℕ) (s : Step) : Type 0 where
  pub takes : takes_of motion s.entry.ask ≡ false
  pub halts : (sender : ℤ) → halts_from motion sender s.entry.ask ≡ false

-- a sending end that matches the steps of its worker matches them with such a call too
abbrev pub SendsPass : Type 0
SendsPass = (m : Sender) (steps : List Step) (s : Step) (rows : List Line) → SendsElsewhere m.motion s → Sends m steps rows → Sends m (steps ++ s ∷ []) rows

-- and so does a receiving end
abbrev pub HearsPass : Type 0
HearsPass = (m : Listener) (steps : List Step) (s : Step) (given : List Line) → HearsElsewhere m.end.motion s → Hears m steps given → Hears m (steps ++ s ∷ []) given
