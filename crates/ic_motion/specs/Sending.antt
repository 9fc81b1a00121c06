-- The sending end of a motion: the rows handed to it, the chunks put for each receiver, and those still to be put.
use Rattle.std.specs.Prelude.{◌≡◌, ℕ, ℤ, List, [], ◌∷◌, ◌++◌, map, length, nat_lt, nat_le, Bool, false, ◌&&◌, ◌||◌, if◌then◌else◌, slice_get, Contains, Option, Some, None}
use Rattle.std.specs.List.{list_all}
use Rattle.ic_base.specs.declared.keys.ConnEnd.{ConnEnd}
use Rattle.ic_base.specs.Ports.{SendsTo}
use Rattle.ic_law.specs.Points.{IsPrefix}
use Rattle.pl_ops.specs.Rows.{Line}
use Rattle.pl_ops.specs.Routing.{Route, ToAll, ToHashed, routed}
use Rattle.pl_runs.specs.Steps.{Step, put_on, stopped_on, finished_on}
use Rattle.pl_runs.specs.Slices.{cut}
use Rattle.ic_motion.specs.declared.answers.MotionNo.{MotionNo}
use Rattle.ic_motion.specs.declared.answers.MotionKind.{MotionKind}
use Rattle.ic_motion.specs.declared.answers.MotionKind.TheVariants.{Gather, Redistribute, Broadcast}
use Rattle.ic_motion.specs.Hearing.{Ascends}

-- how a motion of this kind routes its rows; a gather has one receiver, to which all go
abbrev pub route_by : MotionKind → Route
route_by Gather = ToAll
route_by (Redistribute columns) = ToHashed columns
route_by Broadcast = ToAll

-- ---- a sending end

-- a receiver, whether it wants no more, and whether its stream was finished
pub record Target : Type 0 where
  pub to : ℤ
  pub stopped : Bool
  pub finished : Bool

-- The row in work: the chunk that is put next, and those after it. It goes to the receivers at the places from the first up to the
-- end, and the chunk is still to be put to those from `at` on. If no row is in work, the end is 0.
pub record Work : Type 0 where
  pub chunk : List ℕ
  pub rest : List (List ℕ)
  pub first : ℕ
  pub end : ℕ
  pub at : ℕ

-- the motion, how it routes, the size of its packets, its receivers in order, the row in work, whether it was asked to end, and why
-- it goes no further
pub record Sender : Type 0 where
  pub motion : ℕ
  pub kind : MotionKind
  pub packet : ℕ
  pub targets : List Target
  pub work : Work
  pub ending : Bool
  pub refused : Option MotionNo

abbrev pub to_of : Target → ℤ
to_of t = t.to

abbrev pub receivers_of : List Target → List ℤ
receivers_of targets = map to_of targets

abbrev pub fresh_target : ℤ → Target
fresh_target to = record { to = to; stopped = false; finished = false }

abbrev pub no_work : Work
no_work = record { chunk = []; rest = []; first = 0; end = 0; at = 0 }

-- before the first call
abbrev pub fresh_sender : ℕ → MotionKind → ℕ → List ℤ → Sender
fresh_sender motion kind packet receivers = record { motion = motion; kind = kind; packet = packet; targets = map fresh_target receivers; work = no_work; ending = false; refused = None }

abbrev pub is_stopped : Target → Bool
is_stopped t = t.stopped

-- nothing more is to be done for it
abbrev pub is_over : Target → Bool
is_over t = t.finished || t.stopped

abbrev pub all_stopped : List Target → Bool
all_stopped targets = list_all is_stopped targets

abbrev pub all_over : List Target → Bool
all_over targets = list_all is_over targets

-- no row is in work
abbrev pub IsIdle : Work → Type 0
IsIdle w = w.end ≡ 0

-- ---- what is still to be put

-- the chunk, if there is one
abbrev pub pending : List ℕ → List (List ℕ)
pending [] = []
pending (b ∷ bytes) = (b ∷ bytes) ∷ []

-- the row in work goes to the receiver at this place
abbrev pub goes_to : ℕ → Work → Bool
goes_to place w = nat_le w.first place && nat_lt place w.end

-- the chunks that are still to be put to the receiver at this place
abbrev pub left_at : ℕ → Work → List (List ℕ)
left_at place w = if goes_to place w then ((if nat_le w.at place then pending w.chunk else []) ++ w.rest) else []

-- ---- how it matches the steps of its worker

-- The receiver at a place, of so many, after these rows were handed in. The chunks put for it are the first of those of the rows that
-- are routed there; while it wants more, they and those still to be put are all of them.
pub record Reaches (route : Route) (motion packet count place : ℕ) (t : Target) (w : Work) (rows : List Line) (steps : List Step) : Type 0 where
  pub stopped : t.stopped ≡ stopped_on motion t.to steps
  pub finished : t.finished ≡ finished_on motion t.to steps
  pub front : IsPrefix (put_on motion t.to steps) (cut packet (routed route count place rows))
  pub all : t.stopped ≡ false → put_on motion t.to steps ++ left_at place w ≡ cut packet (routed route count place rows)

-- A sending end matches the steps of its worker, after these rows were handed in.
pub record Sends (m : Sender) (steps : List Step) (rows : List Line) : Type 0 where
  pub ascend : Ascends (receivers_of m.targets)
  pub each : (place : ℕ) (t : Target) → slice_get m.targets place ≡ Some t → Reaches (route_by m.kind) m.motion m.packet (length m.targets) place t m.work rows steps
  pub open_ : m.ending ≡ false → (place : ℕ) (t : Target) → slice_get m.targets place ≡ Some t → t.finished ≡ false

-- each receiver that wants more has all chunks of the rows
abbrev pub AreServed : Sender → List Step → List Line → Type 0
AreServed m steps rows =
    (place : ℕ) (t : Target) → slice_get m.targets place ≡ Some t → t.stopped ≡ false → put_on m.motion t.to steps ≡ cut m.packet (routed (route_by m.kind) (length m.targets) place rows)

-- ---- a call

-- the worker sends on a connection of the motion to each of these
abbrev pub SendsToEach : List ConnEnd → ℕ → List ℤ → Type 0
SendsToEach keys motion receivers = (to : ℤ) → Contains receivers to → SendsTo keys motion to

-- the rows after a row is handed in, which may be in work already
abbrev pub handed : Work → List Line → Line → List Line
handed w rows row = if nat_lt 0 w.end then rows else rows ++ row ∷ []
