-- The receiving end of a motion: what a worker heard so far, and what is left of it to be given.
use Rattle.std.specs.Prelude.{◌≡◌, ℕ, ℤ, ◌<ℤ◌, List, [], ◌∷◌, ◌++◌, length, map, flat_map, Bool, false, ◌||◌, Option, Some, None}
use Rattle.std.specs.List.{AllByRecursion, AllZip}
use Rattle.ic_row.specs.declared.value.Kind.{Kind}
use Rattle.ic_row.specs.declared.order.Key.{Key}
use Rattle.ic_chunk.specs.Joining.{Held, Stands}
use Rattle.pl_ops.specs.Rows.{Line}
use Rattle.pl_ops.specs.Fitting.{IsOfKind}
use Rattle.pl_ops.specs.Streams.{Stream}
use Rattle.pl_ops.specs.Merging.{sorts_before, Gives, choice_of}
use Rattle.pl_mean.specs.Outputs.{Input, rows_in, came_from, stream_from}
use Rattle.pl_runs.specs.Steps.{Step, input_of, parcels_of, ended_by, is_take, is_take_from, halted_from}
use Rattle.pl_runs.specs.Logs.{payloads_from}
use Rattle.ic_motion.specs.declared.answers.MotionEnd.{MotionEnd}
use Rattle.ic_motion.specs.declared.answers.MotionNo.{MotionNo}

-- ---- what was heard

-- nothing more comes from the sender: the end of its stream was taken, or a take was answered so
abbrev pub has_ended : ℕ → List Step → ℤ → Bool
has_ended motion steps sender = (input_of motion steps).whole sender || (ended_by (is_take motion) steps || ended_by (is_take_from motion sender) steps)

-- of one motion the rows with their senders, in the order of the takes, and from which senders nothing more comes
abbrev pub heard_of : ℕ → List Step → Input
heard_of motion steps = record { took = (input_of motion steps).took; whole = has_ended motion steps }

-- a value of its kind for each column, or null
abbrev pub HasKinds : List Kind → Line → Type 0
HasKinds kinds row = AllZip IsOfKind kinds row

-- ---- a receiving end

-- of one sender: what is held of its stream, its rows that weren't given yet, whether nothing more comes, whether it was
-- halted
pub record Lane : Type 0 where
  pub sender : ℤ
  pub stream : Held
  pub rows : List Line
  pub over : Bool
  pub halted : Bool

-- the motion, the order in which it gives rows, if any, the kinds of its columns, its senders, and why it goes no further
pub record Listener : Type 0 where
  pub end : MotionEnd
  pub order : Option (List Key)
  pub kinds : List Kind
  pub lanes : List Lane
  pub refused : Option MotionNo

abbrev pub sender_of : Lane → ℤ
sender_of l = l.sender

abbrev pub senders_of : List Lane → List ℤ
senders_of lanes = map sender_of lanes

abbrev pub rows_of : Lane → List Line
rows_of l = l.rows

-- how many rows are held of all senders
abbrev pub rows_held : List Lane → ℕ
rows_held lanes = length (flat_map rows_of lanes)

-- the rows that are held, with the mark that no more come
abbrev pub stream_of : Lane → Stream
stream_of l = record { rows = l.rows; ended = l.over }

abbrev pub streams_of : List Lane → List Stream
streams_of lanes = map stream_of lanes

abbrev pub fresh_lane : ℤ → Lane
fresh_lane sender = record { sender = sender; stream = record { rest = []; ended = false }; rows = []; over = false; halted = false }

-- before the first pull
abbrev pub fresh : MotionEnd → List ℤ → Option (List Key) → List Kind → Listener
fresh end senders order kinds = record { end = end; order = order; kinds = kinds; lanes = map fresh_lane senders; refused = None }

-- each number is below those after it
abbrev pub Ascends : List ℤ → Type 0
Ascends [] = Unit {0}
Ascends (a ∷ as_) = AllByRecursion (λ b. a <ℤ b) as_ × Ascends as_

-- no step takes from the motion or halts a sender of it
abbrev pub IsUnheard : ℕ → List Step → Type 0
IsUnheard motion steps = (parcels_of motion steps ≡ []) × ((input_of motion steps).took ≡ []) × ((a : ℤ) → (has_ended motion steps a ≡ false) × (halted_from motion a steps ≡ false))

-- ---- how it matches what was heard

-- These rows were given by steps of an ordered gather of these streams, and this is left of each.
pub data Merged (before : Line → Line → Bool) (start : List Stream) : List Line → List Stream → Type 0 where
  begins : Merged before start [] start
  goes_on : (given : List Line) (streams left : List Stream) (row : Line) → Merged before start given streams → choice_of before streams ≡ Gives row left → Merged before start (given ++ row ∷ []) left

-- The rows given and those held are the rows taken. Without an order they are so one after another; with one, those held are
-- what an ordered gather leaves.
abbrev pub Left : Option (List Key) → List Lane → Input → List Line → Type 0
Left None lanes input given = rows_in input.took ≡ given ++ flat_map rows_of lanes
Left (Some keys) lanes input given = Merged (sorts_before keys) (map (stream_from input) (senders_of lanes)) given (streams_of lanes)

-- One sender matches the worker's steps. What is held of its stream is what its payloads leave after the rows taken from it.
pub record LaneHears (motion : ℕ) (kinds : List Kind) (steps : List Step) (l : Lane) : Type 0 where
  pub stands : Stands l.stream (payloads_from l.sender (parcels_of motion steps)) (came_from l.sender (input_of motion steps).took)
  pub over : l.over ≡ has_ended motion steps l.sender
  pub halted : l.halted ≡ halted_from motion l.sender steps
  pub fit : AllByRecursion (HasKinds kinds) l.rows

-- A receiving end that gave these rows matches the worker's steps.
pub record Hears (m : Listener) (steps : List Step) (given : List Line) : Type 0 where
  pub ascend : Ascends (senders_of m.lanes)
  pub each : AllByRecursion (LaneHears m.end.motion m.kinds steps) m.lanes
  pub left : Left m.order m.lanes (heard_of m.end.motion steps) given
  pub fit : AllByRecursion (HasKinds m.kinds) (rows_in (input_of m.end.motion steps).took)
