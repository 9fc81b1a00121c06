-- What the run of one slice's worker is: seven points.
use Rattle.std.specs.Prelude.{◌≡◌, Bool, true, false, not, ◌&&◌, ◌||◌, ◌==◌, List, [], ◌∷◌, ◌++◌, Some}
use Rattle.std.specs.List.{list_all, AllByRecursion}
use Rattle.ic_law.specs.Points.{IsPrefix}
use Rattle.pl_plan.specs.Motions.{Link}
use Rattle.pl_ops.specs.Rows.{Line}
use Rattle.pl_runs.specs.Steps.{Step, sends_on, put_on, finishes, finished_on, stopped_on, input_of, is_halt, halted_from, repeats}
use Rattle.pl_runs.specs.Slices.{Worker, sending, receiving, output_of, chunks_for}
use Rattle.pl_runs.specs.Wanting.{Want, want_in, wanted_by, has_its_limit}

-- what a worker did so far: its calls, the rows that it let out, and whether it is done
pub record Course : Type 0 where
  pub steps : List Step
  pub let_out : List Line
  pub done : Bool

-- each call has this point, given the calls before it
abbrev pub Every : (List Step → Step → Type 0) → List Step → Type 0
Every P steps = (before : List Step) (s : Step) (after : List Step) → steps ≡ before ++ s ∷ after → P before s

-- ---- sending

-- after the call the chunks put on each connection are the first of those of the output before it that are for the receiver
abbrev pub PutsNext : Worker → List Step → Step → Type 0
PutsNext w before s = AllByRecursion (λ (l : Link). IsPrefix (put_on l.motion l.to (before ++ s ∷ [])) (chunks_for w before l.to)) (sending w)

-- on one connection: a call that puts the end of stream comes once the output has ended and all its chunks for the receiver
-- were put, and no call that sends comes after it
pub record EndsWith (w : Worker) (before : List Step) (s : Step) (l : Link) : Type 0 where
  pub ended : finishes l.motion l.to s ≡ true → (output_of w before).ended ≡ true
  pub all : finishes l.motion l.to s ≡ true → chunks_for w before l.to ≡ put_on l.motion l.to before
  pub last : sends_on l.motion l.to s.entry.ask ≡ true → finished_on l.motion l.to before ≡ false

abbrev pub FinishesLast : Worker → List Step → Step → Type 0
FinishesLast w before s = AllByRecursion (EndsWith w before s) (sending w)

-- ---- halts

abbrev pub is_root : Worker → Bool
is_root w = w.slice == 0

abbrev pub all_stopped : Worker → List Step → Bool
all_stopped w steps = list_all (λ (l : Link). stopped_on l.motion l.to steps) (sending w)

-- a limit is satisfied; or the slice isn't the root's, and every receiver wants no more
abbrev pub may_halt : Worker → List Step → Bool
may_halt w steps = has_its_limit w steps || (not (is_root w) && all_stopped w steps)

abbrev pub HaltsLate : Worker → List Step → Step → Type 0
HaltsLate w before s = is_halt s.entry.ask ≡ true → may_halt w before ≡ true

-- ---- the root's rows, and the end

-- the root's worker lets out the first rows of its output, and all of them once it is done; no other lets out any
pub record LetsOut (w : Worker) (c : Course) : Type 0 where
  pub front : is_root w ≡ true → IsPrefix c.let_out (output_of w c.steps).rows
  pub all : is_root w ≡ true → c.done ≡ true → (output_of w c.steps).rows ≡ c.let_out
  pub none : is_root w ≡ false → c.let_out ≡ []

abbrev pub is_whole : List Step → Link → Bool
is_whole steps l = (input_of l.motion steps).whole l.from

-- nothing more is to be done on the connection
abbrev pub is_sent : List Step → Link → Bool
is_sent steps l = finished_on l.motion l.to steps || stopped_on l.motion l.to steps

abbrev pub is_heard : List Step → Link → Bool
is_heard steps l = is_whole steps l || halted_from l.motion l.from steps

-- once it is done each connection is over, and the root's output has ended
pub record IsOver (w : Worker) (steps : List Step) : Type 0 where
  pub sent : list_all (is_sent steps) (sending w) ≡ true
  pub heard : list_all (is_heard steps) (receiving w) ≡ true
  pub ended : is_root w ≡ true → (output_of w steps).ended ≡ true

-- ---- takes

-- on one connection: all chunks of the output so far were put, or the receiver wants no more
abbrev pub IsServed : Worker → List Step → Link → Type 0
IsServed w before l = stopped_on l.motion l.to before ≡ false → chunks_for w before l.to ≡ put_on l.motion l.to before

-- the call takes what is wanted, and only once each receiver is served; the root serves none
pub record TakesWanted (w : Worker) (before : List Step) (s : Step) : Type 0 where
  pub wanted : (want : Want) → want_in s.entry.ask ≡ Some want → wanted_by w before ≡ Some want
  pub served : (want : Want) → want_in s.entry.ask ≡ Some want → AllByRecursion (IsServed w before) (sending w)

-- ---- the run

abbrev pub OnlyOnce : List Step → Step → Type 0
OnlyOnce before s = repeats before s.entry.ask s.entry.reply ≡ false

pub record SliceRun (w : Worker) (c : Course) : Type 0 where
  -- puts are the first chunks of the output, for each receiver its own
  pub puts : Every (PutsNext w) c.steps
  -- a stream is finished once all of it was put, and nothing is sent after its end
  pub finishes : Every (FinishesLast w) c.steps
  -- halts come if a limit is satisfied or no receiver wants more
  pub halts : Every (HaltsLate w) c.steps
  -- the root lets out the first rows of its output
  pub lets_out : LetsOut w c
  -- done with every connection over
  pub over : c.done ≡ true → IsOver w c.steps
  -- Stopped, Ended and halts at most once each
  pub once : Every OnlyOnce c.steps
  -- takes are of the wanted motion, and come after all puts
  pub takes : Every (TakesWanted w) c.steps
