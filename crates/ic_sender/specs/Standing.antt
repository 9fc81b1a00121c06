-- The histories that a sending connection stands for.
use Rattle.std.specs.Prelude.{◌≡◌, ◌⊎◌, ℕ, ◌+◌, ◌-◌, ◌^◌, ◌<◌, ◌≤◌, List, [], ◌∷◌, ◌++◌, length, map, true, false, Option, Some, None, Contains, slice_get}
use Rattle.std.specs.List.{AllByRecursion}
use Rattle.std.specs.Option.{option_map}
use Rattle.ic_base.specs.declared.keys.ConnKey.{ConnKey}
use Rattle.ic_base.specs.declared.keys.ConnEnd.{ConnEnd}
use Rattle.ic_base.specs.declared.settings.Settings.{Settings}
use Rattle.ic_base.specs.declared.datagram.Datagram.{Datagram}
use Rattle.ic_base.specs.Settings.{AreChecked}
use Rattle.ic_chunk.specs.Assembly.{together}
use Rattle.ic_expire.specs.declared.item.Item.{Item}
use Rattle.ic_expire.specs.Queue.{held_of}
use Rattle.ic_law.specs.declared.history.Entry.{Entry}
use Rattle.ic_header.specs.Packets.{RowPacket, IsSegment, row_datagram}
use Rattle.ic_law.specs.History.{emitted_of, rows_in, rows_emitted_of, number_of}
use Rattle.ic_law.specs.Putting.{finished_of}
use Rattle.ic_law.specs.Hearing.{stopped_of, run_heard, consumed_heard, IsStopped}
use Rattle.ic_law.specs.Filling.{Sealed, filling_of, sealed_of}
use Rattle.ic_law.specs.Points.{Every, SameAgain, SentUpto, Sends, IsHere, IsAcknowledged}
use Rattle.ic_law.specs.Sending.{Refuses}
use Rattle.ic_law.specs.Clock.{clock_of}
use Rattle.ic_law.specs.Timers.{Timer, Asked, Timing}
use Rattle.ic_law.specs.Timing.{timing_of, row_at, numbers_behind}
use Rattle.ic_law.specs.Emission.{EmitsDue}
use Rattle.ic_law.specs.Armed.{IsSoon}
use Rattle.ic_sender.specs.declared.flight.Flight.{Flight}
use Rattle.ic_sender.specs.Sending.{Sending, row_of, kept_at, count_next, asked_next}
use Rattle.ic_sender.specs.Entries.{IsBefore}

-- the names of an end fit the words of headers
pub record IsNamed (end : ConnEnd) : Type 0 where
  pub session : end.key.session < 2 ^ 32
  pub query : end.key.query < 2 ^ 32
  pub motion : end.key.motion < 2 ^ 32
  pub send_slice : end.send_slice < 2 ^ 32
  pub recv_slice : end.recv_slice < 2 ^ 32
  pub from : IsSegment end.key.from
  pub to : IsSegment end.key.to

-- ---- what is on its way

abbrev pub item_of : ℕ → Timer → Item
item_of conn t = record { due = t.due; conn = conn; seq = t.seq }

-- A packet on its way is what the timing has of it, waits in the queue until its due, and is kept as the datagram that
-- its number has.
pub record Waits (end : ConnEnd) (packets : List Sealed) (conn : ℕ) (held : List Item) (clock : ℕ) (f : Flight) (t : Timer) : Type 0 where
  pub seq : t.seq ≡ f.seq
  pub tries : t.tries ≡ f.tries
  pub since : t.since ≡ f.since
  pub resent : t.resent ≡ f.resent
  pub waits : Contains held (item_of conn t)
  pub soon : IsSoon clock t.due
  pub same : map (row_datagram end) (row_at (slice_get packets (f.seq - 1)) f.seq) ≡ f.datagram ∷ []

-- pair by pair
abbrev pub Alike : (Flight → Timer → Type 0) → List Flight → List Timer → Type 0
Alike R [] [] = Unit {0}
Alike R (f ∷ fs) (t ∷ ts) = R f t × Alike R fs ts
Alike R [] (t ∷ ts) = ⊥
Alike R (f ∷ fs) [] = ⊥

-- ---- while it runs

abbrev pub IsPayload : ℕ → Sealed → Type 0
IsPayload packet p = (4 ≤ length p.payload) × (length p.payload + 64 ≤ packet)

-- what was put and heard is what the connection has of it
pub record Reads (s : Sending) (h : List Entry) : Type 0 where
  pub finished : finished_of s.end.key h ≡ s.finished
  pub opened : s.finished ≡ false → together (filling_of s.end.key s.settings h).opened ≡ s.opened
  pub least : (s.opened ≡ []) ⊎ (4 ≤ length s.opened)
  pub most : length s.opened + 68 ≤ s.settings.packet
  pub run : run_heard s.end.key h ≡ s.acked
  pub consumed : consumed_heard s.end.key h ≡ s.consumed

-- of these packets and this timing the connection has what it needs, and what waits is its own
pub record Mirrors (s : Sending) (held : List Item) (packets : List Sealed) (t : Timing) (clock : ℕ) : Type 0 where
  pub sealed : length packets ≡ s.sealed
  pub small : s.sealed < 2 ^ 32
  pub sizes : AllByRecursion (IsPayload s.settings.packet) packets
  pub numbers : map number_of s.kept ≡ numbers_behind s.acked (s.sealed - s.acked)
  pub kept : (n : ℕ) → s.acked < n → n ≤ s.sealed → row_of (kept_at s.kept n) ≡ row_at (slice_get packets (n - 1)) n
  pub up : s.acked ≤ s.sent
  pub taken : s.consumed ≤ s.acked
  pub flights : map (λ (f : Flight). f.seq) s.flights ≡ numbers_behind s.acked (s.sent - s.acked)
  pub timers : Alike (Waits s.end packets s.conn held clock) s.flights t.timers
  pub alone : (y : Item) → Contains held y → y.conn ≡ s.conn → (x : Timer) × Contains t.timers x × (y ≡ item_of s.conn x)
  pub window : t.window ≡ s.window
  pub depth : 1 ≤ s.window.depth
  pub least : 256 ≤ s.window.window
  pub asked : t.asked ≡ s.asked
  pub asked_soon : (a : Asked) → s.asked ≡ Some a → IsSoon clock a.due

-- nothing more is to be emitted
pub record IsSettled (s : Sending) : Type 0 where
  pub none : count_next s ≡ 0
  pub query : (now : ℕ) → asked_next now s ≡ s.asked

pub record Runs (s : Sending) (held : List Item) (h : List Entry) : Type 0 where
  pub reads : Reads s h
  pub mirrors : Mirrors s held (sealed_of s.end.key s.settings h) (timing_of s.end.key s.settings h) (clock_of h)
  pub settled : IsSettled s

-- ---- whether it runs or is stopped

-- nothing is on its way
pub record IsStill (s : Sending) (t : Timing) : Type 0 where
  pub flights : s.flights ≡ []
  pub query : s.asked ≡ None
  pub timers : t.timers ≡ []
  pub asked : t.asked ≡ None

pub record Reflects (s : Sending) (held : List Item) (h : List Entry) : Type 0 where
  pub names : IsNamed s.end
  pub checked : AreChecked s.settings
  pub sent : SentUpto (sealed_of s.end.key s.settings h) (rows_emitted_of s.end.key h) s.sent
  pub made : (d : Datagram) (p : RowPacket) → Contains (emitted_of h) d → rows_in s.end.key d ≡ p ∷ [] → d ≡ row_datagram s.end p
  pub stopped : stopped_of s.end.key h ≡ s.stopped
  pub runs : s.stopped ≡ false → Runs s held h
  pub still : s.stopped ≡ true → IsStill s (timing_of s.end.key s.settings h)

-- the points of a sending end, of one entry against the entries before it
pub record KeepsSending (settings : Settings) (end : ConnEnd) (before : List Entry) (e : Entry) : Type 0 where
  pub same : SameAgain end.key (before ++ e ∷ [])
  pub sent : Sends end.key (before ++ e ∷ [])
  pub refuses : IsHere end before → Refuses settings end before e
  pub emits : IsHere end before → EmitsDue settings end before e

-- A connection, with what waits, stands for a history: each entry kept the points of its end, and it is what the history
-- says of it.
pub record Stands (s : Sending) (held : List Item) (h : List Entry) : Type 0 where
  pub law : Every (KeepsSending s.settings s.end) h
  pub reflects : Reflects s held h

-- the end isn't there yet
abbrev pub IsUntouched : ConnEnd → List Entry → Type 0
IsUntouched end h = Every (IsBefore end) h

-- wherever it stood at this tick, it stands with such an entry more
abbrev pub StandsOn : ℕ → Sending → List Item → Sending → List Item → (Entry → Type 0) → Type 0
StandsOn now old held new left Is = (h : List Entry) (e : Entry) → clock_of h ≡ now → Is e → Stands old held h → Stands new left (h ++ e ∷ [])

-- nothing waits for a connection
abbrev pub HoldsNone : ℕ → List Item → Type 0
HoldsNone conn held = (y : Item) → Contains held y → y.conn ≡ conn → ⊥

-- ---- what follows

-- the numbers of a connection that wait, with their dues
abbrev pub dues_held : ℕ → List Item → List (ℕ × ℕ)
dues_held conn held = map (λ (x : Item). (x.seq, x.due)) (held_of conn held)

abbrev pub query_at : Option Asked → Option ℕ
query_at asked = option_map (λ (a : Asked). a.due) asked

-- stopped, or finished with all packets acknowledged
abbrev pub IsOver : Sending → Type 0
IsOver s = (s.stopped ≡ true) ⊎ ((s.finished ≡ true) × (s.kept ≡ []))

abbrev pub IsOverIn : ConnKey → List Entry → Type 0
IsOverIn c h = IsStopped c h ⊎ IsAcknowledged c h
