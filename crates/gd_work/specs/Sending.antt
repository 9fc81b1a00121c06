-- Rows sent on one connection: which chunks were put, which are still to be put, and what a turn adds.
use Rattle.std.specs.Prelude.{◌≡◌, ◌≢◌, ℕ, ℤ, List, [], ◌∷◌, ◌++◌, map, take, drop, Bool, ◌&&◌, ◌==◌, if◌then◌else◌, Any, ◌⊎◌, IfErr, Result, Ok, Err}
use Rattle.std.specs.List.{flat_map, All, AllByRecursion}
use Rattle.std.specs.Ordering.{int_eq}
use Rattle.ic_base.specs.declared.keys.ConnEnd.{ConnEnd}
use Rattle.ic_base.specs.declared.port.PortNo.{PortNo}
use Rattle.ic_base.specs.declared.port.PortNo.TheVariants.{Full, Empty, Stopped, Ended, TooLong, Busy, Memory}
use Rattle.ic_base.specs.declared.port.PortAsk.{PortAsk}
use Rattle.ic_base.specs.declared.port.PortAsk.TheVariants.{Put, Finish, Take, TakeFrom, Halt}
use Rattle.ic_base.specs.declared.port.PortReply.{PortReply}
use Rattle.ic_base.specs.declared.port.PortReply.TheVariants.{Did, Gave, Refused}
use Rattle.ic_base.specs.declared.port.PortEntry.{PortEntry}
use Rattle.ic_base.specs.Ports.{did, logged, MayRefusePut}
use Rattle.ic_row.specs.declared.value.Value.{Value}
use Rattle.ic_row.specs.Spelling.{spelling_of, IsRow}
use Rattle.ic_chunk.specs.Chunks.{spelled}
use Rattle.ic_chunk.specs.Cutting.{chunks_of}
use Rattle.gd_work.specs.declared.course.Turned.{Turned}
use Rattle.gd_work.specs.declared.course.Turned.TheVariants as turned
use Rattle.gd_work.specs.declared.course.WorkNo.{WorkNo}
use Rattle.gd_work.specs.declared.course.WorkNo.TheVariants as why
use Rattle.gd_work.specs.declared.course.Course.{Course}
use Rattle.gd_work.specs.declared.course.Course.TheVariants.{Going, Done}

-- ---- chunks of rows

-- the bytes of each chunk of a row, in packets of this size
abbrev pub row_chunks : ℕ → List Value → List (List ℕ)
row_chunks packet row = map spelled (chunks_of packet (spelling_of row))

-- the chunks into which rows are cut, in order
abbrev pub cut : ℕ → List (List Value) → List (List ℕ)
cut packet rows = flat_map (row_chunks packet) rows

-- ---- what a log says of the connection of a motion to a segment

-- the call puts or finishes on this connection
abbrev pub IsOn : ℕ → ℤ → PortAsk → Type 0
IsOn motion to (Put m t chunk) = (m ≡ motion) × (t ≡ to)
IsOn motion to (Finish m t) = (m ≡ motion) × (t ≡ to)
IsOn motion to (Take m) = ⊥
IsOn motion to (TakeFrom m sender) = ⊥
IsOn motion to (Halt m sender) = ⊥

-- no entry is on this connection
abbrev pub IsUntouched : ℕ → ℤ → List PortEntry → Type 0
IsUntouched motion to log = All (λ e. IsOn motion to e.ask → ⊥) log

abbrev pub put_by : ℕ → ℤ → PortAsk → PortReply → List (List ℕ)
put_by motion to (Put m t chunk) Did = if (m == motion) && int_eq t to then chunk ∷ [] else []
put_by motion to (Put m t chunk) (Gave parcel) = []
put_by motion to (Put m t chunk) (Refused no_) = []
put_by motion to (Finish m t) reply = []
put_by motion to (Take m) reply = []
put_by motion to (TakeFrom m sender) reply = []
put_by motion to (Halt m sender) reply = []

abbrev pub put_in : ℕ → ℤ → PortEntry → List (List ℕ)
put_in motion to e = put_by motion to e.ask e.reply

-- the chunks that were put on it, in order
abbrev pub puts_of : ℕ → ℤ → List PortEntry → List (List ℕ)
puts_of motion to log = flat_map (put_in motion to) log

-- the entry finished its stream
abbrev pub Finishes : ℕ → ℤ → PortEntry → Type 0
Finishes motion to e = (e.ask ≡ Finish motion to) × (e.reply ≡ Did)

abbrev pub IsFinished : ℕ → ℤ → List PortEntry → Type 0
IsFinished motion to log = Any (Finishes motion to) log

-- the entry was answered that the receiver wants no more
abbrev pub Stops : ℕ → ℤ → PortEntry → Type 0
Stops motion to e = IsOn motion to e.ask × (e.reply ≡ Refused Stopped)

-- one of the two: nothing is to be done on the connection afterwards
abbrev pub Ends : ℕ → ℤ → PortEntry → Type 0
Ends motion to e = Finishes motion to e ⊎ Stops motion to e

-- ---- a scanner

-- the connection and the size of packets; how many of the rows were begun, and which of their chunks are still to be
-- put
pub record Scanning : Type 0 where
  pub motion : ℕ
  pub to : ℤ
  pub packet : ℕ
  pub begun : ℕ
  pub left : List (List ℕ)
  pub course : Course

-- the chunks of these rows that are still to be put
abbrev pub still : Scanning → List (List Value) → List (List ℕ)
still s rows = s.left ++ cut s.packet (drop s.begun rows)

-- a scanner before its first turn
abbrev pub fresh : ℕ → ℤ → ℕ → Scanning
fresh motion to packet = record { motion = motion; to = to; packet = packet; begun = 0; left = []; course = Going }

-- the connection and the size of packets are the same
pub record Same (old new : Scanning) : Type 0 where
  pub motion : new.motion ≡ old.motion
  pub to : new.to ≡ old.to
  pub packet : new.packet ≡ old.packet

-- How the log agrees with rows that are sent in packets of this size, of whose chunks these are left. The chunks put
-- and those left are all chunks of the rows, in order. If the stream was finished, none is left. After its end nothing
-- is done on the connection. The sender is done exactly if there is such an end.
pub record Sends (rows : List (List Value)) (motion : ℕ) (to : ℤ) (packet : ℕ) (left : List (List ℕ)) (course : Course) (log : List PortEntry) : Type 0 where
  pub chunks : puts_of motion to log ++ left ≡ cut packet rows
  pub whole : IsFinished motion to log → left ≡ []
  pub last : (before : List PortEntry) (e : PortEntry) (after : List PortEntry) → log ≡ before ++ e ∷ after → Ends motion to e → IsUntouched motion to after
  pub done : course ≡ Done → Any (Ends motion to) log
  pub going : course ≢ Done → Any (Ends motion to) log → ⊥

-- a scanner of these rows matches the log of its port, and the rows that it began can be spelled and read back
pub record Scans (rows : List (List Value)) (s : Scanning) (log : List PortEntry) : Type 0 where
  pub sends : Sends rows s.motion s.to s.packet (still s rows) s.course log
  pub are_rows : AllByRecursion IsRow (take s.begun rows)

-- ---- one call

-- the next call: a put of the first chunk that is left, or a finish if none is left
abbrev pub next_ask : ℕ → ℤ → List (List ℕ) → PortAsk
next_ask motion to [] = Finish motion to
next_ask motion to (chunk ∷ chunks) = Put motion to chunk

-- what a turn answers if its call was refused for this reason
abbrev pub refused : PortNo → Result Turned WorkNo
refused Full = Ok (turned.Waiting Full)
refused Busy = Ok (turned.Waiting Busy)
refused Stopped = Ok turned.Done
refused (TooLong key) = Err (why.TooLong key)
refused Memory = Err why.Memory
refused Empty = Err why.Memory
refused Ended = Err why.Memory

-- what it answers if its call was done, with these chunks left before the call
abbrev pub moved : List (List ℕ) → Turned
moved [] = turned.Done
moved (chunk ∷ chunks) = turned.Moved

-- what it answers if its call was answered so
abbrev pub told : List (List ℕ) → Result (Unit {0}) PortNo → Result Turned WorkNo
told chunks (Ok _) = Ok (moved chunks)
told chunks (Err no_) = refused no_

-- the chunks left after the call
abbrev pub left_by : Result (Unit {0}) PortNo → List (List ℕ) → List (List ℕ)
left_by (Ok _) chunks = drop 1 chunks
left_by (Err no_) chunks = chunks

-- The next call was made and answered so, and the log has it. If the scanner itself ran out of memory, that counts as a
-- call that was answered Memory.
pub record Puts (keys : List ConnEnd) (motion : ℕ) (to : ℤ) (before after : List (List ℕ)) (log now : List PortEntry) (result : Result Turned WorkNo) : Type 0 where
  pub answer : Result (Unit {0}) PortNo
  pub entry : now ≡ logged (next_ask motion to before) (did answer) log
  pub may : IfErr answer (MayRefusePut keys motion to)
  pub tells : result ≡ told before answer
  pub left : after ≡ left_by answer before
