-- The calls of one slice's worker: what was put, finished, stopped, taken and halted by them.
use Rattle.std.specs.Prelude.{ℕ, ℤ, Bool, true, false, ◌&&◌, ◌==◌, if◌then◌else◌, List, [], ◌∷◌, map}
use Rattle.std.specs.List.{flat_map, list_any}
use Rattle.std.specs.Ordering.{int_eq}
use Rattle.ic_base.specs.declared.datagram.Parcel.{Parcel}
use Rattle.ic_base.specs.declared.port.PortNo.TheVariants.{Stopped, Ended}
use Rattle.ic_base.specs.declared.port.PortAsk.{PortAsk}
use Rattle.ic_base.specs.declared.port.PortAsk.TheVariants.{Put, Finish, Take, TakeFrom, Halt}
use Rattle.ic_base.specs.declared.port.PortReply.{PortReply}
use Rattle.ic_base.specs.declared.port.PortReply.TheVariants.{Did, Gave, Refused}
use Rattle.ic_base.specs.declared.port.PortEntry.{PortEntry}
use Rattle.pl_ops.specs.Rows.{Line}
use Rattle.pl_mean.specs.Outputs.{Came, Input, Inputs}

-- a call with its answer, and the rows that the parcel completes if it took one
pub record Step : Type 0 where
  pub entry : PortEntry
  pub rows : List Line

-- the calls alone, as the log has them
abbrev pub calls_of : List Step → List PortEntry
calls_of steps = map (λ (s : Step). s.entry) steps

-- ---- answers

abbrev pub is_done : PortReply → Bool
is_done Did = true
is_done _ = false

abbrev pub is_stopped : PortReply → Bool
is_stopped (Refused Stopped) = true
is_stopped _ = false

abbrev pub is_ended : PortReply → Bool
is_ended (Refused Ended) = true
is_ended _ = false

-- ---- sending, on the connection of a motion to a segment

abbrev pub sends_on : ℕ → ℤ → PortAsk → Bool
sends_on motion to (Put m t chunk) = (m == motion) && int_eq t to
sends_on motion to (Finish m t) = (m == motion) && int_eq t to
sends_on motion to _ = false

abbrev pub ends_on : ℕ → ℤ → PortAsk → Bool
ends_on motion to (Finish m t) = (m == motion) && int_eq t to
ends_on motion to _ = false

abbrev pub chunk_of : ℕ → ℤ → PortAsk → List (List ℕ)
chunk_of motion to (Put m t chunk) = if (m == motion) && int_eq t to then chunk ∷ [] else []
chunk_of motion to _ = []

abbrev pub chunk_in : ℕ → ℤ → Step → List (List ℕ)
chunk_in motion to s = if is_done s.entry.reply then chunk_of motion to s.entry.ask else []

-- the chunks that were put, in order
abbrev pub put_on : ℕ → ℤ → List Step → List (List ℕ)
put_on motion to steps = flat_map (chunk_in motion to) steps

abbrev pub finishes : ℕ → ℤ → Step → Bool
finishes motion to s = is_done s.entry.reply && ends_on motion to s.entry.ask

-- the end of stream was put
abbrev pub finished_on : ℕ → ℤ → List Step → Bool
finished_on motion to steps = list_any (finishes motion to) steps

abbrev pub stops : ℕ → ℤ → Step → Bool
stops motion to s = is_stopped s.entry.reply && sends_on motion to s.entry.ask

-- a call was answered that the receiver wants no more
abbrev pub stopped_on : ℕ → ℤ → List Step → Bool
stopped_on motion to steps = list_any (stops motion to) steps

-- ---- taking

abbrev pub takes_of : ℕ → PortAsk → Bool
takes_of motion (Take m) = m == motion
takes_of motion (TakeFrom m sender) = m == motion
takes_of motion _ = false

abbrev pub parcels_by : PortReply → List Parcel
parcels_by (Gave parcel) = parcel ∷ []
parcels_by _ = []

abbrev pub parcels_in : ℕ → Step → List Parcel
parcels_in motion s = if takes_of motion s.entry.ask then parcels_by s.entry.reply else []

-- the parcels that were taken of a motion, in order
abbrev pub parcels_of : ℕ → List Step → List Parcel
parcels_of motion steps = flat_map (parcels_in motion) steps

abbrev pub came_by : List Line → Parcel → List Came
came_by rows parcel = map (λ row. record { from = parcel.from; row = row }) rows

abbrev pub came_in : ℕ → Step → List Came
came_in motion s = flat_map (came_by s.rows) (parcels_in motion s)

abbrev pub ends_stream : ℤ → Parcel → Bool
ends_stream sender parcel = parcel.last && int_eq parcel.from sender

-- of one motion the rows with their senders, in the order of the takes, and whose end was taken
abbrev pub input_of : ℕ → List Step → Input
input_of motion steps = record { took = flat_map (came_in motion) steps; whole = λ sender. list_any (ends_stream sender) (parcels_of motion steps) }

-- of a worker's segment; no other segment's are known here
abbrev pub inputs_of : List Step → Inputs
inputs_of steps motion at = input_of motion steps

-- ---- halts, and answers that come once

abbrev pub halts_from : ℕ → ℤ → PortAsk → Bool
halts_from motion sender (Halt m a) = (m == motion) && int_eq a sender
halts_from motion sender _ = false

abbrev pub is_halt : PortAsk → Bool
is_halt (Halt m a) = true
is_halt _ = false

abbrev pub halted_from : ℕ → ℤ → List Step → Bool
halted_from motion sender steps = list_any (λ s. halts_from motion sender s.entry.ask) steps

abbrev pub is_take : ℕ → PortAsk → Bool
is_take motion (Take m) = m == motion
is_take motion _ = false

abbrev pub is_take_from : ℕ → ℤ → PortAsk → Bool
is_take_from motion sender (TakeFrom m a) = (m == motion) && int_eq a sender
is_take_from motion sender _ = false

abbrev pub ended_by : (PortAsk → Bool) → List Step → Bool
ended_by is steps = list_any (λ s. is_ended s.entry.reply && is s.entry.ask) steps

-- the call was answered so once before: Stopped on a connection, Ended to a take of a motion or of one sender, a halt
abbrev pub repeats : List Step → PortAsk → PortReply → Bool
repeats before (Put m t chunk) reply = is_stopped reply && stopped_on m t before
repeats before (Finish m t) reply = is_stopped reply && stopped_on m t before
repeats before (Take m) reply = is_ended reply && ended_by (is_take m) before
repeats before (TakeFrom m a) reply = is_ended reply && ended_by (is_take_from m a) before
repeats before (Halt m a) reply = halted_from m a before
