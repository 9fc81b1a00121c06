-- A session's nodes with the past that made them.
use Rattle.std.specs.Prelude.{◌≡◌, ℕ, ◌+◌, ◌-◌, ◌<◌, List, length, map, Option, Some, None, Contains, slice_get}
use Rattle.std.specs.List.{flat_map}
use Rattle.ic_base.specs.declared.datagram.Datagram.{Datagram}
use Rattle.ic_base.specs.declared.settings.Settings.{Settings}
use Rattle.ic_law.specs.declared.history.Entry.{Entry}
use Rattle.ic_law.specs.Points.{place_at}
use Rattle.ic_law.specs.Streams.{node_of}
use Rattle.ic_port.specs.Noding.{Noding, place_of, emitted_with, IsLawful}
use Rattle.gd_world.specs.Doings.{Doing, at_of}
use Rattle.gd_world.specs.Events.{Event, did_in, node_in, segment_at, history_in, Plays}

-- the nodes of the dispatcher, of segment 0 and so on, and the steps that were done, oldest first
pub record Sessional : Type 0 where
  pub nodes : List Noding
  pub past : List Doing

abbrev pub entries_of : Noding → List Entry
entries_of n = n.entries

-- the histories of all nodes
abbrev pub histories_of : Sessional → List (List Entry)
histories_of s = map entries_of s.nodes

-- ---- the entry of a step

abbrev pub entry_of : Option Noding → Option ℕ → Option Entry
entry_of None place = None
entry_of (Some n) None = None
entry_of (Some n) (Some place) = slice_get n.entries place

abbrev pub entry_by : List Noding → Doing → Option Entry
entry_by nodes did = entry_of (slice_get nodes (node_of (at_of did.step))) did.entry

abbrev pub entry_with : List Noding → Option Doing → Option Entry
entry_with nodes None = None
entry_with nodes (Some did) = entry_by nodes did

-- that of the last step
abbrev pub last_entry : Sessional → Option Entry
last_entry s = entry_with s.nodes (slice_get s.past (length s.past - 1))

-- ---- what was sent

-- what was emitted with the entry of a step
abbrev pub emitted_by : List Noding → Doing → List Datagram
emitted_by nodes did = emitted_with (entry_by nodes did)

-- all datagrams, in the order of the steps: the number of each is its place here
abbrev pub sent_by : Sessional → List Datagram
sent_by s = flat_map (emitted_by s.nodes) s.past

-- ---- what it stands for

-- the event is at one of so many nodes
pub record IsWithin (count : ℕ) (e : Event) : Type 0 where
  pub within : node_in e < count
  pub at : at_of e.did.step ≡ segment_at (node_in e)

-- Its past and its histories are just what these events tell: the steps in order, and for each node its entries in order. Each
-- event is a step behind those before it, at one of the nodes.
pub record Recalls (es : List Event) (s : Sessional) : Type 0 where
  pub past : s.past ≡ map did_in es
  pub histories : (k : ℕ) (n : Noding) → slice_get s.nodes k ≡ Some n → n.entries ≡ history_in k es
  pub plays : Plays es
  pub within : (e : Event) → Contains es e → IsWithin (length s.nodes) e

-- a node for the dispatcher and for each of so many segments
pub record IsSessionOf (session segments : ℕ) (settings : Settings) (s : Sessional) : Type 0 where
  pub count : length s.nodes ≡ segments + 1
  pub placed : (k : ℕ) (n : Noding) → slice_get s.nodes k ≡ Some n → place_of n ≡ place_at session (segment_at k) settings

-- the laws of hubs hold at each node
abbrev pub AreLawful : List Noding → Type 0
AreLawful nodes = (k : ℕ) (n : Noding) → slice_get nodes k ≡ Some n → IsLawful n
