-- In which order a tick emits what is due.
use Rattle.std.specs.Prelude.{◌≡◌, ℕ, if◌then◌else◌, Contains, List, [], ◌++◌, map}
use Rattle.std.specs.List.{flat_map}
use Rattle.ic_base.specs.declared.keys.ConnEnd.{ConnEnd}
use Rattle.ic_base.specs.declared.settings.Settings.{Settings}
use Rattle.ic_base.specs.declared.datagram.Datagram.{Datagram}
use Rattle.ic_law.specs.declared.history.Entry.{Entry}
use Rattle.ic_header.specs.Packets.{row_datagram, query_datagram}
use Rattle.ic_law.specs.History.{emits}
use Rattle.ic_law.specs.Numbers.{IsIncreasingFrom}
use Rattle.ic_law.specs.Points.{IsLive}
use Rattle.ic_law.specs.Emitting.{rows_then, queries_then}

-- a live query, with the ends that its connections have here
pub record Live : Type 0 where
  pub number : ℕ
  pub ends : List ConnEnd

abbrev pub query_number : Live → ℕ
query_number q = q.number

-- these are all live queries, by increasing number
pub record AreLive (before : List Entry) (live : List Live) : Type 0 where
  pub each : (q : Live) → Contains live q → IsLive q.number q.ends before
  pub all : (number : ℕ) (ends : List ConnEnd) → IsLive number ends before → Contains live (record { number = number; ends = ends })
  pub increase : IsIncreasingFrom 0 (map query_number live)

-- what an entry emits on a sending end: its packets of rows, and its status query
abbrev pub rows_out : Settings → List Entry → Entry → ConnEnd → List Datagram
rows_out settings before e end = if end.sending then map (row_datagram end) (rows_then end.key settings before e) else []

abbrev pub queries_out : Settings → List Entry → Entry → ConnEnd → List Datagram
queries_out settings before e end = if end.sending then map (query_datagram end) (queries_then end.key settings before e) else []

-- what it emits for a query: first the packets of rows of each connection, in order and by number; then the status
-- queries in the same order
abbrev pub query_out : Settings → List Entry → Entry → Live → List Datagram
query_out settings before e q = flat_map (rows_out settings before e) q.ends ++ flat_map (queries_out settings before e) q.ends

-- The entry emits this for one live query after another. All that is due at one tick has the same due, so within a
-- query this is the order by due, by the connection's place, and by number.
pub record IsInOrder (settings : Settings) (before : List Entry) (e : Entry) : Type 0 where
  pub live : List Live
  pub are : AreLive before live
  pub emitted : emits e ≡ flat_map (query_out settings before e) live
