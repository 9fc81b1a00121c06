-- What stands of the stations of a session, and of their network, while a query plays.
use Rattle.std.specs.Prelude.{◌≡◌, ℕ, zero, suc, ◌+◌, ◌<◌, ◌≤◌, nat_lt, ℤ, pos, negsuc, List, [], ◌∷◌, ◌++◌, length, map, true, false, if◌then◌else◌, Some, Contains, slice_get, slice_index_or}
use Rattle.std.specs.List.{All, AllByRecursion, range_with_len}
use Rattle.ic_base.specs.declared.keys.ConnKey.{ConnKey}
use Rattle.ic_base.specs.declared.keys.ConnEnd.{ConnEnd}
use Rattle.ic_base.specs.declared.settings.Settings.{Settings}
use Rattle.ic_base.specs.declared.datagram.Datagram.{Datagram}
use Rattle.ic_row.specs.declared.value.Value.{Value}
use Rattle.ic_row.specs.Spelling.{HasLengths}
use Rattle.ic_law.specs.declared.history.Entry.{Entry}
use Rattle.ic_law.specs.Points.{place_at}
use Rattle.ic_law.specs.History.{emitted_of, arrived_of}
use Rattle.ic_law.specs.Taking.{IsHaltAsked, IsWhole}
use Rattle.ic_law.specs.Queries.{left_of}
use Rattle.ic_law.specs.Streams.{NetworkLaw, history_of}
use Rattle.gd_net.specs.Network.{Net}
use Rattle.gd_work.specs.declared.course.Course.TheVariants.{Done}
use Rattle.gd_work.specs.Sending.{Scanning, Scans}
use Rattle.gd_work.specs.Taking.{Gathering, Gathers, parcels_of}
use Rattle.ic_law.specs.Logs.{log_of, IsOf}
use Rattle.ic_port.specs.Noding.{place_of}
use Rattle.ic_port.specs.Calls.{begins_of}
use Rattle.gd_law.specs.Answers.{gather_key, gather_end}
use Rattle.gd_law.specs.Playing.{IsFromOne}
use Rattle.gd_sim.specs.declared.station.Worker.{Worker}
use Rattle.gd_sim.specs.declared.station.Worker.TheVariants.{Rests, Sends, Takes}
use Rattle.gd_sim.specs.declared.station.Station.{Station}
use Rattle.gd_sim.specs.declared.sim.Sim.{Sim}

-- ---- the query

-- A query in its session: a gather of these parts, one for each segment that sends, from 0 on.
pub record Gather : Type 0 where
  pub session : ℕ
  pub segments : ℕ
  pub settings : Settings
  pub query : ℕ
  pub parts : List (List (List Value))

-- how many segments send
abbrev pub senders : Gather → ℕ
senders g = length g.parts

-- the segment at a place: the dispatcher is first
abbrev pub segment_at : ℕ → ℤ
segment_at zero = negsuc 0
segment_at (suc n) = pos n

-- the ends that a segment has of a query with so many segments that send
abbrev pub ends_here : ℕ → ℕ → ℕ → ℤ → List ConnEnd
ends_here session query count (negsuc n) = map (gather_end session query false) (range_with_len 0 count)
ends_here session query count (pos n) = if nat_lt n count then gather_end session query true n ∷ [] else []

abbrev pub ends_at : Gather → ℤ → List ConnEnd
ends_at g at = ends_here g.session g.query (senders g) at

-- ---- workers

-- a scanner sends this part on the gather's connection
pub record SendsPart (g : Gather) (part : List (List Value)) (s : Scanning) (h : List Entry) : Type 0 where
  pub motion : s.motion ≡ 1
  pub to : s.to ≡ negsuc 0
  pub packet : s.packet ≡ g.settings.packet
  pub scans : Scans part s (log_of g.query h)

-- A gatherer takes of all segments that send. It halts none, and once it is done the end of each was taken.
pub record TakesAll (g : Gather) (t : Gathering) (h : List Entry) : Type 0 where
  pub motion : t.motion ≡ 1
  pub gathers : Gathers t (log_of g.query h)
  pub from : AllByRecursion (IsFromOne (senders g)) (parcels_of 1 (log_of g.query h))
  pub no_halt : (c : ConnKey) → c.query ≡ g.query → IsHaltAsked c h → ⊥
  pub whole : t.course ≡ Done → (segment : ℕ) → segment < senders g → IsWhole (gather_key g.session g.query segment) h

-- each segment's worker: the dispatcher takes, those that have a part send it, the others have nothing to do
abbrev pub WorkStands : Gather → ℤ → Worker → List Entry → Type 0
WorkStands g (negsuc n) Rests h = ⊥
WorkStands g (negsuc n) (Sends s) h = ⊥
WorkStands g (negsuc n) (Takes t) h = TakesAll g t h
WorkStands g (pos n) Rests h = senders g ≤ n
WorkStands g (pos n) (Sends s) h = (n < senders g) × SendsPart g (slice_index_or g.parts n []) s h
WorkStands g (pos n) (Takes t) h = ⊥

-- its worker has done all, if there is one
abbrev pub IsDone : Worker → Type 0
IsDone Rests = Unit {0}
IsDone (Sends s) = s.course ≡ Done
IsDone (Takes t) = t.course ≡ Done

-- ---- stations

-- a station at its place in the session, whichever query it serves
pub record IsPlaced (session : ℕ) (segment : ℤ) (settings : Settings) (s : Station) : Type 0 where
  pub place : place_of s.node ≡ place_at session segment settings
  -- it left no query but those up to its last
  pub lefts : (n : ℕ) → Contains (left_of s.node.entries) n → n ≤ s.node.query
  -- and was asked to begin none but these, from 1 on
  pub begun : (n : ℕ) → Contains (begins_of s.node.entries) n → (1 ≤ n) × (n ≤ s.node.query)

-- a station that serves the query; some segment sends
pub record Plays (g : Gather) (segment : ℤ) (s : Station) : Type 0 where
  pub placed : IsPlaced g.session segment g.settings s
  pub query : s.node.query ≡ g.query
  pub one_sends : 0 < senders g
  pub ends : s.left ≡ false → s.node.ends ≡ ends_at g segment
  pub unleft : s.left ≡ false → Contains (left_of s.node.entries) g.query → ⊥
  -- it leaves only once its worker is done
  pub done : s.left ≡ true → IsDone s.worker
  -- and its hub let it
  pub gone : s.left ≡ true → Contains (left_of s.node.entries) g.query
  pub work : WorkStands g segment s.worker s.node.entries

-- ---- all of them

-- the histories of the nodes
abbrev pub entries_in : Station → List Entry
entries_in s = s.node.entries

abbrev pub nodes_of : List Station → List (List Entry)
nodes_of stations = map entries_in stations

-- what the network keeps was emitted by the node that it is from
abbrev pub WasEmitted : List (List Entry) → Net → Type 0
WasEmitted nodes net = (d : Datagram) → Contains net.kept d → Contains (emitted_of (history_of nodes d.from)) d

-- stations and network of a session, whichever query they serve
pub record IsSim (session segments : ℕ) (settings : Settings) (s : Sim) : Type 0 where
  pub count : length s.stations.items ≡ segments + 1
  pub placed : (k : ℕ) (station : Station) → slice_get s.stations.items k ≡ Some station → IsPlaced session (segment_at k) settings station
  pub network : NetworkLaw (nodes_of s.stations.items)
  pub kept : WasEmitted (nodes_of s.stations.items) s.network

-- they serve the query
pub record AllPlay (g : Gather) (s : Sim) : Type 0 where
  pub sim : IsSim g.session g.segments g.settings s
  pub one_sends : 0 < senders g
  pub few : senders g ≤ g.segments
  pub each : (k : ℕ) (station : Station) → slice_get s.stations.items k ≡ Some station → Plays g (segment_at k) station

-- the parts are the rows that the stations are handed, by segment, and these can be spelled
pub record AreRows (g : Gather) (rows_at : ℤ → List (List Value)) : Type 0 where
  pub parts : (n : ℕ) → n < senders g → slice_index_or g.parts n [] ≡ rows_at (pos n)
  pub lengths : (n : ℕ) → n < senders g → All HasLengths (rows_at (pos n))

-- ---- growth

-- A history grew by entries in which no worker but this query's asks. No datagram came with them.
pub record GrowsOwn (query : ℕ) (h now : List Entry) : Type 0 where
  pub more : List Entry
  pub grown : now ≡ h ++ more
  pub of : AllByRecursion (λ e. IsOf query e.ask) more
  pub none_came : arrived_of more ≡ []

-- A history grew by entries in which no worker but this query's asks.
pub record Grows (query : ℕ) (h now : List Entry) : Type 0 where
  pub more : List Entry
  pub grown : now ≡ h ++ more
  pub of : AllByRecursion (λ e. IsOf query e.ask) more

-- so did each history
pub record AllGrow (query : ℕ) (old new : Sim) : Type 0 where
  pub count : length new.stations.items ≡ length old.stations.items
  pub each : (segment : ℤ) → Grows query (history_of (nodes_of old.stations.items) segment) (history_of (nodes_of new.stations.items) segment)
