-- What a connection keeps in memory, as its model has it.
use Rattle.std.specs.Prelude.{◌≡◌, ◌-◌, ◌&&◌, min, nat_le, nat_lt, if◌then◌else◌, Vec, vec_capacity, ℕ, ◌+◌, ◌≤◌, length, List, [], ◌∷◌, ◌++◌, map, Option, None, Some}
use Rattle.std.specs.List.{AllByRecursion, Contains}
use Rattle.std.specs.Option.{option_map}
use Rattle.std.specs.declared.alloc.Global.{Global}
use Rattle.ic_base.specs.declared.settings.Settings.{Settings}
use Rattle.ic_base.specs.Settings.{AreChecked}
use Rattle.ic_base.specs.declared.keys.ConnEnd.{ConnEnd}
use Rattle.ic_window.specs.State.{WindowState}
use Rattle.ic_window.specs.Window.{room_of}
use Rattle.ic_sender.specs.declared.planning.Plan.{Plan}
use Rattle.ic_sender.specs.declared.answers.Answer as declared
use Rattle.ic_sender.specs.Sending.{Answer, flight_of, rows_kept}
use Rattle.ic_expire.specs.Queue.{Queue, IsHeld}
use Rattle.ic_header.specs.Packets.{RowPacket}
use Rattle.ic_law.specs.Numbers.{IsIncreasingFrom}
use Rattle.ic_law.specs.Timers as law
use Rattle.ic_law.specs.Timing as timing
use Rattle.ic_sendring.specs.Ring.{Ring, Kept, Packet}
use Rattle.ic_sender.specs.declared.flight.Flight.{Flight}
use Rattle.ic_sender.specs.declared.numbers.Asked.{Asked}
use Rattle.ic_sender.specs.declared.numbers.Numbers.{Numbers}
use Rattle.ic_sendring.specs.declared.sealed.Sealed.{Sealed}

abbrev pub asked_of : Asked → law.Asked
asked_of a = record { due = a.due; tries = a.tries }

abbrev pub row_in : Packet → RowPacket
row_in p = record { seq = p.seq; payload = p.payload; last = p.last }

-- the packets that a ring keeps
abbrev pub rows_in : Ring → List RowPacket
rows_in ring = map (λ (k : Kept). row_in k.packet) ring.kept

-- the packet that is sealed with an event
abbrev pub newest_of : Sealed → RowPacket
newest_of n = record { seq = n.seq; payload = n.payload.now; last = n.last }

abbrev pub one_of : Option Sealed → List RowPacket
one_of None = []
one_of (Some n) = newest_of n ∷ []

-- the packets that a ring keeps with it
abbrev pub with_newest : Ring → Option Sealed → List RowPacket
with_newest ring newest = rows_in ring ++ one_of newest

-- ---- what waits

-- each of these may wait, one after the other: none of them waits, and they increase
pub record MayWait (conn : ℕ) (numbers : List ℕ) (q : Queue) : Type 0 where
  pub absent : (n : ℕ) → Contains numbers n → IsHeld conn n q.held → ⊥
  pub least : ℕ
  pub increase : IsIncreasingFrom least numbers
  pub room : length q.held + length numbers ≤ q.room

-- ---- what goes out

-- how many packets go out, and which query stands then
abbrev pub count_of : Numbers → WindowState → ℕ → ℕ
count_of n w depth = min (n.sealed - n.sent) (room_of w.window (n.sent - n.acked) (depth - (n.sent - n.consumed)))

abbrev pub asked_then : Numbers → ℕ → WindowState → ℕ → Option law.Asked → ℕ → Option law.Asked
asked_then n sent w depth asked now =
    if nat_lt 0 (depth - (sent - n.consumed)) then None else (if nat_le sent n.acked && nat_lt sent n.sealed then timing.standing now w asked else asked)

-- the plan is of these packets, numbers and window
pub record Plans (end : ConnEnd) (kept : List RowPacket) (n : Numbers) (w : WindowState) (depth : ℕ) (asked : Option law.Asked) (now : ℕ) (p : Plan) : Type 0 where
  pub count : p.count ≡ count_of n w depth
  pub flights : p.flights.items ≡ map (flight_of end now) (rows_kept kept (timing.numbers_behind n.sent (count_of n w depth)))
  pub asks : option_map asked_of p.asked ≡ asked_then n (n.sent + count_of n w depth) w depth asked now
  pub due : p.due ≡ now + law.wait_in w 0

-- ---- what is always true

-- how often a packet, or a status query, can have been tried
abbrev pub FewTries : ℕ → List Flight → Type 0
FewTries retries flights = AllByRecursion (λ f. f.tries ≤ retries) flights

abbrev pub AsksFew : ℕ → Option law.Asked → Type 0
AsksFew retries None = Unit {0}
AsksFew retries (Some a) = a.tries ≤ retries

-- The ring is of these settings, the packet that is being filled has room for the end of stream, and for a whole payload
-- without memory, and nothing was tried more often than it may be.
pub record IsSound (settings : Settings) (opened : Vec ℕ Global) (ring : Ring) (numbers : Numbers) (flights : List Flight) (asked : Option Asked) : Type 0 where
  pub checked : AreChecked settings
  pub fits : length opened.items + 68 ≤ settings.packet
  pub room : settings.packet ≤ vec_capacity opened + 64
  pub depth : ring.depth ≡ settings.send_depth
  pub packet : ring.packet ≡ settings.packet
  pub sealed : ring.sealed ≡ numbers.sealed
  pub up : numbers.acked ≤ numbers.sent
  pub tries : FewTries settings.retries flights
  pub asks : AsksFew settings.retries (option_map asked_of asked)

-- ---- what an answer tells

abbrev pub told : declared.Answer → Answer
told a = record { run = a.run; consumed = a.consumed; names = a.names; lists = a.lists.now }
