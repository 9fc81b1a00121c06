-- Events: the steps of a session, each with the entry that came of it, in one order. Histories and what was sent are read from
-- them.
use Rattle.std.specs.Prelude.{◌≡◌, ℕ, zero, suc, ◌==◌, ℤ, pos, negsuc, Bool, false, ◌&&◌, List, [], ◌∷◌, ◌++◌, length, if◌then◌else◌, Option, Some, None, slice_get}
use Rattle.std.specs.List.{flat_map, list_any}
use Rattle.std.specs.Ordering.{int_eq}
use Rattle.ic_base.specs.declared.datagram.Datagram.{Datagram}
use Rattle.ic_base.specs.declared.keys.ConnEnd.{ConnEnd}
use Rattle.ic_law.specs.declared.history.Entry.{Entry}
use Rattle.ic_law.specs.declared.history.HubAsk.{HubAsk}
use Rattle.ic_law.specs.declared.history.HubAsk.TheVariants as ask
use Rattle.ic_law.specs.declared.history.HubReply.{HubReply}
use Rattle.ic_law.specs.History.{emits, arrives}
use Rattle.ic_law.specs.Queries.{leaves, was_begun, was_left}
use Rattle.ic_law.specs.Streams.{node_of}
use Rattle.ic_port.specs.Calls.{begins}
use Rattle.gd_world.specs.declared.step.Step.{Step}
use Rattle.gd_world.specs.declared.step.Step.TheVariants as step
use Rattle.gd_world.specs.Doings.{Answer, Doing, at_of}

pub record Event : Type 0 where
  pub did : Doing
  pub entry : Option Entry

-- ---- what is read from them

abbrev pub did_in : Event → Doing
did_in e = e.did

-- the node of an event, by its position: the dispatcher is first
abbrev pub node_in : Event → ℕ
node_in e = node_of (at_of e.did.step)

-- the segment at a position
abbrev pub segment_at : ℕ → ℤ
segment_at zero = negsuc 0
segment_at (suc n) = pos n

abbrev pub entries_in : Option Entry → List Entry
entries_in None = []
entries_in (Some e) = e ∷ []

-- its entry, if it is of this node
abbrev pub entry_at : ℕ → Event → List Entry
entry_at node e = if node_in e == node then entries_in e.entry else []

-- the history of a node
abbrev pub history_in : ℕ → List Event → List Entry
history_in node es = flat_map (entry_at node) es

abbrev pub emitted_in : Event → List Datagram
emitted_in e = flat_map emits (entries_in e.entry)

-- all datagrams that were emitted, in order
abbrev pub sent_in : List Event → List Datagram
sent_in es = flat_map emitted_in es

-- ---- who has begun, and who has left

abbrev pub asks_to_begin : ℤ → Step → Bool
asks_to_begin at (step.Begin a) = int_eq a at
asks_to_begin at (step.Turn slice a) = false
asks_to_begin at (step.Deliver number a) = false
asks_to_begin at (step.Tick a) = false
asks_to_begin at (step.Leave a) = false

abbrev pub begun_with : Option Entry → Bool
begun_with None = false
begun_with (Some e) = was_begun e.reply

-- with this event the node of a segment began its query
abbrev pub begun_in : ℤ → Event → Bool
begun_in at e = asks_to_begin at e.did.step && begun_with e.entry

-- the node of a segment has begun the query of these events
abbrev pub has_begun : ℤ → List Event → Bool
has_begun at es = list_any (begun_in at) es

abbrev pub asks_to_leave : ℤ → Step → Bool
asks_to_leave at (step.Begin a) = false
asks_to_leave at (step.Turn slice a) = false
asks_to_leave at (step.Deliver number a) = false
asks_to_leave at (step.Tick a) = false
asks_to_leave at (step.Leave a) = int_eq a at

abbrev pub left_with : Option Entry → Bool
left_with None = false
left_with (Some e) = was_left e.reply

-- with this event it left its query
abbrev pub left_in : ℤ → Event → Bool
left_in at e = asks_to_leave at e.did.step && left_with e.entry

-- it has left the query of these events
abbrev pub has_left : ℤ → List Event → Bool
has_left at es = list_any (left_in at) es

-- ---- an event behind others

abbrev pub place_behind : List Event → ℤ → Option Entry → Option ℕ
place_behind before at None = None
place_behind before at (Some e) = Some (length (history_in (node_of at) before))

-- this step, answered so if it is a turn, with this entry, which is the next of the node's history
abbrev pub event_of : List Event → Step → Option Answer → Option Entry → Event
event_of before s turned entry = record { did = record { step = s; turned = turned; entry = place_behind before (at_of s) entry }; entry = entry }

abbrev pub asked : HubAsk → HubReply → Option Entry
asked ask reply = Some (record { ask = ask; reply = reply })

-- a call in which no datagram came, and with which no query began or was left
pub record IsCall (e : Entry) : Type 0 where
  pub none_came : arrives e ≡ []
  pub none_begun : begins e ≡ []
  pub none_left : leaves e ≡ []

-- the entry of a turn, if it has one, is a call of the slice's
abbrev pub IsOfTurn : Option Entry → Type 0
IsOfTurn None = Unit {0}
IsOfTurn (Some e) = IsCall e

-- a query that runs: its number, and the ends that each segment has of it
pub record Running : Type 0 where
  pub number : ℕ
  pub ends : ℤ → List ConnEnd

-- What one step of this query may be, behind these events. There is one rule for each step. It adds the entry that it names at
-- the node that it names, and no other. A datagram is the one that was emitted under the number, and it goes where it is
-- addressed.
pub data IsStep (q : Running) (before : List Event) : Event → Type 0 where
  begins_it : (at : ℤ) (reply : HubReply) → IsStep q before (event_of before (step.Begin at) None (asked (ask.Begin q.number (q.ends at)) reply))
  turns : (slice : ℕ) (at : ℤ) (answer : Answer) (entry : Option Entry) → IsOfTurn entry → IsStep q before (event_of before (step.Turn slice at) (Some answer) entry)
  delivers : (number : ℕ) (d : Datagram) (reply : HubReply) → slice_get (sent_in before) number ≡ Some d → IsStep q before (event_of before (step.Deliver number d.to) None (asked (ask.Arrive d) reply))
  ticks : (at : ℤ) (reply : HubReply) → IsStep q before (event_of before (step.Tick at) None (asked ask.Tick reply))
  leaves_it : (at : ℤ) (reply : HubReply) → IsStep q before (event_of before (step.Leave at) None (asked (ask.Leave q.number) reply))

-- each of these events is a step, of some query, behind those before it
abbrev pub PlayBehind : List Event → List Event → Type 0
PlayBehind before [] = Unit {0}
PlayBehind before (e ∷ es) = ((q : Running) × IsStep q before e) × PlayBehind (before ++ e ∷ []) es

abbrev pub Plays : List Event → Type 0
Plays es = PlayBehind [] es
