-- Rows taken from the senders of a motion: which were let out, and what a turn adds.
use Rattle.std.specs.Prelude.{◌≡◌, ◌≢◌, ℕ, zero, suc, ◌+◌, ◌<◌, ℤ, pos, negsuc, List, [], ◌∷◌, ◌++◌, length, slice_index_or, slice_set, replicate, false, ◌==◌, if◌then◌else◌, Any, IfOk, IfErr, Bool, Option, None, Result, Ok, Err}
use Rattle.std.specs.List.{flat_map, All}
use Rattle.std.specs.Ordering.{int_eq}
use Rattle.ic_base.specs.declared.datagram.Parcel.{Parcel}
use Rattle.ic_base.specs.declared.keys.ConnEnd.{ConnEnd}
use Rattle.ic_base.specs.declared.port.PortNo.{PortNo}
use Rattle.ic_base.specs.declared.port.PortNo.TheVariants.{Full, Empty, Stopped, Ended, TooLong, Busy, Memory}
use Rattle.ic_base.specs.declared.port.PortAsk.{PortAsk}
use Rattle.ic_base.specs.declared.port.PortAsk.TheVariants.{Put, Finish, Take, TakeFrom, Halt}
use Rattle.ic_base.specs.declared.port.PortReply.{PortReply}
use Rattle.ic_base.specs.declared.port.PortReply.TheVariants.{Did, Gave, Refused}
use Rattle.ic_base.specs.declared.port.PortEntry.{PortEntry}
use Rattle.ic_base.specs.Ports.{gave, logged, HearsFrom, MayRefuseTake}
use Rattle.ic_row.specs.declared.value.Value.{Value}
use Rattle.ic_chunk.specs.Assembly.{Assembles, IsStream}
use Rattle.ic_chunk.specs.Joining.{Held, Stands}
use Rattle.gd_work.specs.declared.course.Turned.{Turned}
use Rattle.gd_work.specs.declared.course.Turned.TheVariants as turned
use Rattle.gd_work.specs.declared.course.WorkNo.{WorkNo}
use Rattle.gd_work.specs.declared.course.WorkNo.TheVariants as why
use Rattle.gd_work.specs.declared.course.Course.{Course}
use Rattle.gd_work.specs.declared.course.Course.TheVariants as courses

-- ---- what a log says of a motion

-- the call takes from the motion
abbrev pub IsOf : ℕ → PortAsk → Type 0
IsOf motion (Take m) = m ≡ motion
IsOf motion (TakeFrom m sender) = m ≡ motion
IsOf motion (Put m to chunk) = ⊥
IsOf motion (Finish m to) = ⊥
IsOf motion (Halt m sender) = ⊥

-- no entry takes from the motion
abbrev pub IsUntaken : ℕ → List PortEntry → Type 0
IsUntaken motion log = All (λ e. IsOf motion e.ask → ⊥) log

abbrev pub parcel_by : ℕ → PortAsk → PortReply → List Parcel
parcel_by motion (Take m) (Gave parcel) = if m == motion then parcel ∷ [] else []
parcel_by motion (TakeFrom m sender) (Gave parcel) = if m == motion then parcel ∷ [] else []
parcel_by motion (Take m) Did = []
parcel_by motion (Take m) (Refused no_) = []
parcel_by motion (TakeFrom m sender) Did = []
parcel_by motion (TakeFrom m sender) (Refused no_) = []
parcel_by motion (Put m to chunk) reply = []
parcel_by motion (Finish m to) reply = []
parcel_by motion (Halt m sender) reply = []

abbrev pub parcel_in : ℕ → PortEntry → List Parcel
parcel_in motion e = parcel_by motion e.ask e.reply

-- the parcels that were taken from this motion, in order
abbrev pub parcels_of : ℕ → List PortEntry → List Parcel
parcels_of motion log = flat_map (parcel_in motion) log

-- the entry was answered that every sender of the motion has ended
abbrev pub IsEnd : ℕ → PortEntry → Type 0
IsEnd motion e = (e.ask ≡ Take motion) × (e.reply ≡ Refused Ended)

-- ---- the payloads of parcels

abbrev pub payload_in : ℤ → Parcel → List (List ℕ)
payload_in sender p = if int_eq p.from sender then p.payload ∷ [] else []

-- the payloads of one sender, in order
abbrev pub payloads_from : ℤ → List Parcel → List (List ℕ)
payloads_from sender parcels = flat_map (payload_in sender) parcels

-- After these parcels, one more completes these rows: before it, its sender's payloads assemble to some rows, and with
-- it to the same rows and these.
pub record Completes (before : List Parcel) (p : Parcel) (given : List (List Value)) : Type 0 where
  pub done : List (List Value)
  pub rest : List ℕ
  pub ended : Bool
  pub now_rest : List ℕ
  pub now_ended : Bool
  pub was : Assembles (payloads_from p.from before) done rest ended
  pub is : Assembles (payloads_from p.from (before ++ p ∷ [])) (done ++ given) now_rest now_ended

-- Rows let out by parcels, in the order in which the parcels were taken. Each lets out the rows that it completes; it
-- lets out none if its sender's payloads with it are no front of a stream.
pub data LetsOut : List Parcel → List (List Value) → Type 0 where
  nothing : LetsOut [] []
  completes : (before : List Parcel) (p : Parcel) (rows given : List (List Value)) → LetsOut before rows → Completes before p given → LetsOut (before ++ p ∷ []) (rows ++ given)
  spoils : (before : List Parcel) (p : Parcel) (rows : List (List Value)) → LetsOut before rows → (IsStream (payloads_from p.from (before ++ p ∷ [])) → ⊥) → LetsOut (before ++ p ∷ []) rows

-- ---- a gatherer

-- the motion; what is held of each sender's stream, the dispatcher's first, then segment 0's and so on; the rows let
-- out
pub record Gathering : Type 0 where
  pub motion : ℕ
  pub streams : List Held
  pub rows : List (List Value)
  pub course : Course

-- this many streams of which nothing is held
abbrev pub fresh_streams : ℕ → List Held
fresh_streams count = replicate count (record { rest = []; ended = false })

-- a gatherer before its first turn, with a stream for each segment number
abbrev pub fresh : ℕ → Gathering
fresh motion = record { motion = motion; streams = fresh_streams 65; rows = []; course = courses.Going }

-- the sender at a position
abbrev pub sender_at : ℕ → ℤ
sender_at zero = negsuc 0
sender_at (suc n) = pos n

-- the position of a sender
abbrev pub place_of : ℤ → ℕ
place_of (pos n) = n + 1
place_of (negsuc n) = 0

-- nothing was refused
abbrev pub IsFine : Course → Type 0
IsFine courses.Going = Unit {0}
IsFine courses.Done = Unit {0}
IsFine (courses.Refused no_) = ⊥

-- this is held of a sender with these payloads, which are the front of a stream
pub record IsHeld (held : Held) (payloads : List (List ℕ)) : Type 0 where
  pub rows : List (List Value)
  pub assemble : Stands held payloads rows

-- How the log agrees with the rows let out of a motion, if this is held of its senders. The rows are those that the
-- parcels let out, in the order in which they were taken; nothing is said of them if the gatherer ran out of memory.
-- While nothing was refused, each sender's payloads are the front of a stream. The gatherer is done exactly if a take
-- was answered Ended.
pub record Lets (motion : ℕ) (streams : List Held) (rows : List (List Value)) (course : Course) (log : List PortEntry) : Type 0 where
  pub lets_out : course ≢ courses.Refused why.Memory → LetsOut (parcels_of motion log) rows
  pub held : IsFine course → (place : ℕ) (d : Held) → place < length streams → IsHeld (slice_index_or streams place d) (payloads_from (sender_at place) (parcels_of motion log))
  pub malformed : (sender : ℤ) → course ≡ courses.Refused (why.Malformed sender) → IsStream (payloads_from sender (parcels_of motion log)) → ⊥
  pub done : course ≡ courses.Done → Any (IsEnd motion) log
  pub going : course ≢ courses.Done → Any (IsEnd motion) log → ⊥

-- a gatherer matches the log of its port
abbrev pub Gathers : Gathering → List PortEntry → Type 0
Gathers s log = Lets s.motion s.streams s.rows s.course log

-- ---- one parcel

-- the stream took a payload, and gave these rows
abbrev pub Feeds : (old new : Held) → List ℕ → List (List Value) → Type 0
Feeds old new payload given = (payloads : List (List ℕ)) (rows : List (List Value)) → Stands old payloads rows → Stands new (payloads ++ payload ∷ []) (rows ++ given)

-- with this payload it is no stream any more
abbrev pub Spoils : Held → List ℕ → Type 0
Spoils old payload = (payloads : List (List ℕ)) (rows : List (List Value)) → Stands old payloads rows → IsStream (payloads ++ payload ∷ []) → ⊥

-- one of these streams is this sender's
abbrev pub IsAmong : ℤ → List Held → Type 0
IsAmong sender streams = (sender ≡ sender_at (place_of sender)) × (place_of sender < length streams)

-- what a taken parcel does to the streams and to the rows let out, by what the turn answers
abbrev pub Gains : Parcel → (old new : List Held) → (rows more : List (List Value)) → Result Turned WorkNo → Type 0
Gains p old new rows more (Ok turned.Moved) =
    IsAmong p.from old × (held : Held) × (given : List (List Value)) × (new ≡ slice_set old (place_of p.from) held) × (more ≡ rows ++ given)
    × ((d : Held) → Feeds (slice_index_or old (place_of p.from) d) held p.payload given)
Gains p old new rows more (Ok (turned.Waiting no_)) = ⊥
Gains p old new rows more (Ok turned.Done) = ⊥
Gains p old new rows more (Err (why.Malformed sender)) = IsAmong p.from old × (sender ≡ p.from) × (more ≡ rows) × ((d : Held) → Spoils (slice_index_or old (place_of p.from) d) p.payload)
Gains p old new rows more (Err (why.TooLong key)) = ⊥
Gains p old new rows more (Err why.Memory) = Unit {0}

-- what a turn answers if its take was refused for this reason
abbrev pub refused : PortNo → Result Turned WorkNo
refused Empty = Ok (turned.Waiting Empty)
refused Busy = Ok (turned.Waiting Busy)
refused Ended = Ok turned.Done
refused Memory = Err why.Memory
refused Full = Err why.Memory
refused Stopped = Err why.Memory
refused (TooLong key) = Err why.Memory

-- what a take with this answer does to them
abbrev pub TakesBy : (old new : List Held) → (rows more : List (List Value)) → Result Turned WorkNo → Result Parcel PortNo → Type 0
TakesBy old new rows more result (Ok parcel) = Gains parcel old new rows more result
TakesBy old new rows more result (Err no_) = (result ≡ refused no_) × (more ≡ rows) × (new ≡ old)

-- a take was made and answered so, and the log has it
pub record Takes (keys : List ConnEnd) (motion : ℕ) (log now : List PortEntry) (old new : List Held) (rows more : List (List Value)) (result : Result Turned WorkNo) : Type 0 where
  pub answer : Result Parcel PortNo
  pub entry : now ≡ logged (Take motion) (gave answer) log
  pub may : IfErr answer MayRefuseTake
  pub from : IfOk answer (λ parcel. HearsFrom keys motion parcel.from)
  pub makes : TakesBy old new rows more result answer
