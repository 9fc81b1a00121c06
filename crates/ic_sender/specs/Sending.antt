-- A sending connection, and what each event makes of it.
use Rattle.std.specs.Prelude.{◌&&◌, ℕ, ◌+◌, ◌-◌, ◌^◌, min, max, nat_le, nat_lt, List, [], ◌∷◌, ◌++◌, length, map, filter, find, Bool, true, false, ◌==◌, if◌then◌else◌, Option, Some, None}
use Rattle.std.specs.List.{flat_map, list_any}
use Rattle.std.specs.Option.{option_map}
use Rattle.ic_base.specs.declared.keys.ConnEnd.{ConnEnd}
use Rattle.ic_base.specs.declared.settings.Settings.{Settings}
use Rattle.ic_base.specs.declared.datagram.Datagram.{Datagram}
use Rattle.ic_chunk.specs.Chunks.{spelled, end_of_stream}
use Rattle.ic_expire.specs.declared.item.Item.{Item}
use Rattle.ic_expire.specs.Queue.{with_item}
use Rattle.ic_window.specs.State.{WindowState, fresh, grown, lost, sampled}
use Rattle.ic_window.specs.Window.{room_of}
use Rattle.ic_header.specs.Packets.{RowPacket, row_datagram}
use Rattle.ic_sender.specs.declared.flight.Flight.{Flight}
use Rattle.ic_law.specs.Timers.{Asked, wait_in, asked_later, asked_again, lost_where}
use Rattle.ic_law.specs.Timing.{standing, numbers_behind}

-- ---- what it is

pub record Sending : Type 0 where
  pub end : ConnEnd
  -- its number in the queue of what waits
  pub conn : ℕ
  pub settings : Settings
  -- the bytes of the packet that is being filled
  pub opened : List ℕ
  -- how many packets were sealed
  pub sealed : ℕ
  -- those that aren't acknowledged, emitted or not, by number
  pub kept : List RowPacket
  -- the greatest number emitted
  pub sent : ℕ
  -- the greatest run end heard
  pub acked : ℕ
  -- the greatest consumed number heard
  pub consumed : ℕ
  -- the packets on their way, by number
  pub flights : List Flight
  pub window : WindowState
  -- the status query that stands
  pub asked : Option Asked
  pub finished : Bool
  pub stopped : Bool
  -- how often a packet was emitted again
  pub resent : ℕ

-- of which nothing was put
abbrev pub begun : ConnEnd → ℕ → Settings → Sending
begun end conn settings =
    record {
      end = end;
      conn = conn;
      settings = settings;
      opened = [];
      sealed = 0;
      kept = [];
      sent = 0;
      acked = 0;
      consumed = 0;
      flights = [];
      window = fresh settings.receive_depth settings.flow;
      asked = None;
      finished = false;
      stopped = false;
      resent = 0;
    }

-- ---- filling

-- a header takes 64 bytes of a packet, and 4 are kept for the end of stream
abbrev pub fits_opened : Sending → List ℕ → Bool
fits_opened s chunk = nat_le (length s.opened + length chunk + 68) s.settings.packet

-- one packet more, under the next number
abbrev pub sealing : List ℕ → Bool → Sending → Sending
sealing payload last s =
    record s {
      sealed = s.sealed + 1;
      kept = s.kept ++ record { seq = s.sealed + 1; last = last; payload = payload } ∷ [];
    }

-- a chunk that fits is appended; else the packet that was being filled is sealed, and the next begins with the chunk
abbrev pub adding : List ℕ → Sending → Sending
adding chunk s = if fits_opened s chunk then record s { opened = s.opened ++ chunk } else record (sealing s.opened false s) { opened = chunk }

-- the end of stream is appended, and the packet is sealed
abbrev pub ending : Sending → Sending
ending s = record (sealing (s.opened ++ spelled end_of_stream) true s) { finished = true }

-- ---- emitting

abbrev pub row_of : Option RowPacket → List RowPacket
row_of None = []
row_of (Some p) = p ∷ []

-- the packet of this number
abbrev pub kept_at : List RowPacket → ℕ → Option RowPacket
kept_at kept n = find (λ p. p.seq == n) kept

-- the packets of these numbers
abbrev pub rows_kept : List RowPacket → List ℕ → List RowPacket
rows_kept kept numbers = flat_map (λ n. row_of (kept_at kept n)) numbers

-- how many packets the receiver has room for beside those emitted
abbrev pub capacity : Sending → ℕ
capacity s = s.settings.receive_depth - (s.sent - s.consumed)

-- how many go out: the unsent ones, as many as the window and the receiver have room for
abbrev pub count_next : Sending → ℕ
count_next s = min (s.sealed - s.sent) (room_of s.window.window (s.sent - s.acked) (capacity s))

abbrev pub rows_next : Sending → List RowPacket
rows_next s = rows_kept s.kept (numbers_behind s.sent (count_next s))

-- a packet on its way, first emitted at this tick
abbrev pub flight_of : ConnEnd → ℕ → RowPacket → Flight
flight_of end now p = record { seq = p.seq; tries = 0; since = now; resent = false; datagram = row_datagram end p }

-- If nothing is on its way, a packet is unsent and the receiver has no room, a status query stands; room ends it.
abbrev pub asked_next : ℕ → Sending → Option Asked
asked_next now s =
    if nat_lt 0 (capacity s) then None else
    (if nat_le s.sent s.acked && nat_lt s.sent s.sealed then standing now s.window s.asked else s.asked)

-- so many packets more were emitted, these
abbrev pub sending : ℕ → ℕ → List RowPacket → Sending → Sending
sending now count rows s = record s { sent = s.sent + count; flights = s.flights ++ map (flight_of s.end now) rows }

abbrev pub asking : ℕ → Sending → Sending
asking now s = record s { asked = asked_next now s }

-- the end of every event: what there is room for goes out, and a status query stands or doesn't
abbrev pub emitting : ℕ → Sending → Sending
emitting now s = asking now (sending now (count_next s) (rows_next s) s)

-- what goes out with it
abbrev pub datagrams_next : Sending → List Datagram
datagrams_next s = map (row_datagram s.end) (rows_next s)

-- the packets of these numbers wait until one tick
abbrev pub waiting : ℕ → ℕ → List ℕ → List Item → List Item
waiting conn due [] held = held
waiting conn due (n ∷ numbers) held = waiting conn due numbers (with_item (record { due = due; conn = conn; seq = n }) held)

abbrev pub waits_next : ℕ → Sending → List Item → List Item
waits_next now s held = waiting s.conn (now + wait_in s.window 0) (map (λ p. p.seq) (rows_next s)) held

-- ---- answers

-- what an answer tells: the end of the run that came, the number consumed, the packet that it names, those that are missing
pub record Answer : Type 0 where
  pub run : ℕ
  pub consumed : ℕ
  pub names : Option ℕ
  pub lists : List ℕ

abbrev pub run_with : Answer → Sending → ℕ
run_with a s = max s.acked a.run

-- the time of a packet is a sample, if it was never emitted again
abbrev pub sample_by : ℕ → Option Flight → WindowState → WindowState
sample_by now None w = w
sample_by now (Some f) w = if f.resent then w else sampled (now - f.since) w

abbrev pub flight_at : List Flight → ℕ → Option Flight
flight_at flights n = find (λ f. f.seq == n) flights

-- newly freed packets let the window grow, and the greatest of them gives a sample
abbrev pub freed_window : ℕ → ℕ → Sending → WindowState
freed_window now run s =
    if (run - s.acked) == 0 then s.window else sample_by now (flight_at s.flights run) (grown (run - s.acked) s.window)

-- packets up to the run's end are freed
abbrev pub freeing : ℕ → Answer → Sending → Sending
freeing now a s =
    record s {
      kept = filter (λ p. nat_lt (run_with a s) p.seq) s.kept;
      acked = run_with a s;
      consumed = max s.consumed a.consumed;
      flights = filter (λ f. nat_lt (run_with a s) f.seq) s.flights;
      window = freed_window now (run_with a s) s;
    }

abbrev pub is_it : Option ℕ → ℕ → Bool
is_it None n = false
is_it (Some m) n = n == m

abbrev pub is_among : List ℕ → ℕ → Bool
is_among numbers n = list_any (λ m. m == n) numbers

-- a packet that is named has no tries
abbrev pub named : Option ℕ → Flight → Flight
named names f = if is_it names f.seq then record f { tries = 0 } else f

-- a packet that is listed is emitted again
abbrev pub marked : List ℕ → Flight → Flight
marked numbers f = if is_among numbers f.seq then record f { resent = true } else f

abbrev pub copy_of : Option Flight → List Datagram
copy_of None = []
copy_of (Some f) = f.datagram ∷ []

-- the same datagrams again, of these numbers
abbrev pub copies : List Flight → List ℕ → List Datagram
copies flights numbers = flat_map (λ n. copy_of (flight_at flights n)) numbers

-- a loss, if anything was emitted again
abbrev pub lost_with : List Datagram → WindowState → WindowState
lost_with [] w = w
lost_with (d ∷ ds) w = lost w

-- a count that stands still at its end
abbrev pub counted : ℕ → ℕ → ℕ
counted n more = min (n + more) (2 ^ 128 - 1)

-- what is listed is emitted again, and each answer moves the status query
abbrev pub resending : ℕ → Answer → Sending → Sending
resending now a s =
    record s {
      flights = map (λ f. marked a.lists (named a.names f)) s.flights;
      window = lost_with (copies s.flights a.lists) s.window;
      asked = option_map (asked_later now s.window) s.asked;
      resent = counted s.resent (length (copies s.flights a.lists));
    }

abbrev pub hearing : ℕ → Answer → Sending → Sending
hearing now a s = resending now a (freeing now a s)

abbrev pub datagrams_again : ℕ → Answer → Sending → List Datagram
datagrams_again now a s = copies (freeing now a s).flights a.lists

-- ---- a stop

-- it keeps nothing, and nothing waits
abbrev pub halting : Sending → Sending
halting s = record s { kept = []; flights = []; asked = None; stopped = true }

-- ---- a tick

-- a packet with no resending left
abbrev pub has_no_try : Sending → ℕ → Bool
has_no_try s n = list_any (λ f. (f.seq == n) && (f.tries == s.settings.retries)) s.flights

-- the first of these packets with no resending left
abbrev pub spent_of : Sending → List ℕ → Option ℕ
spent_of s numbers = find (has_no_try s) numbers

abbrev pub tried : List ℕ → Flight → Flight
tried numbers f = if is_among numbers f.seq then record f { tries = f.tries + 1; resent = true } else f

-- these packets are emitted again, which is one loss
abbrev pub trying : List ℕ → Sending → Sending
trying numbers s =
    record s {
      flights = map (tried numbers) s.flights;
      window = lost_where numbers s.window;
      resent = counted s.resent (length numbers);
    }

abbrev pub tries_of : Option Flight → ℕ
tries_of None = 0
tries_of (Some f) = f.tries

-- packets wait until ticks that go by their tries
abbrev pub later_waits : ℕ → ℕ → WindowState → List Flight → List ℕ → List Item → List Item
later_waits now conn w flights [] held = held
later_waits now conn w flights (n ∷ numbers) held =
    later_waits now conn w flights numbers (with_item (record { due = now + wait_in w (tries_of (flight_at flights n) + 1); conn = conn; seq = n }) held)

-- and these wait longer
abbrev pub waits_longer : ℕ → Sending → List ℕ → List Item → List Item
waits_longer now s numbers held = later_waits now s.conn s.window s.flights numbers held

-- the status query goes out again
abbrev pub querying : ℕ → Sending → Sending
querying now s = record s { asked = option_map (asked_again now s.window) s.asked }
