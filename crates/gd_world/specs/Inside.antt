-- What the parts of a step say of a node and of a session.
use Rattle.std.specs.Prelude.{◌≡◌, ◌≢◌, ◌⊎◌, ℕ, ◌+◌, ◌<◌, ◌≤◌, nat_lt, ℤ, Bool, true, false, if◌then◌else◌, List, [], ◌∷◌, ◌++◌, length, Option, Some, None, Ok, Err, slice_get, slice_set}
use Rattle.ic_base.specs.declared.keys.ConnEnd.{ConnEnd}
use Rattle.ic_base.specs.declared.settings.Settings.{Settings}
use Rattle.ic_law.specs.declared.history.Entry.{Entry}
use Rattle.ic_law.specs.declared.history.HubAsk.{HubAsk}
use Rattle.ic_law.specs.declared.history.HubAsk.TheVariants as asks
use Rattle.ic_law.specs.declared.history.HubReply.{HubReply}
use Rattle.ic_law.specs.Queries.{was_left, was_begun}
use Rattle.ic_law.specs.Asking.{AreEnds}
use Rattle.ic_law.specs.Streams.{node_of}
use Rattle.ic_hub.specs.Calls.{SamePlace}
use Rattle.ic_port.specs.Noding.{Noding, place_of, fresh}
use Rattle.ic_base.specs.declared.port.PortNo.TheVariants.{Busy}
use Rattle.pl_runs.specs.Logs.{log_of, ends_of}
use Rattle.ex_plan.specs.declared.worker.WorkerId.{WorkerId}
use Rattle.ex_plan.specs.Workers.{worker_of, part_for}
use Rattle.ic_desk.specs.Sitting.{Sits}
use Rattle.ex_slice.specs.declared.stage.Stage.TheVariants as stages
use Rattle.ex_slice.specs.declared.stage.SliceNo.{SliceNo}
use Rattle.ex_slice.specs.declared.stage.Turned.TheVariants.{Waiting, Done}
use Rattle.ex_slice.specs.Working.{Working, Works, CanTurn, SameWay, Listening, Reaching, fresh_course}
use Rattle.ex_slice.specs.Turning.{is_going, is_at_end, StandsAt, TurnsAny}
use Rattle.pl_tree.specs.Trees.{tree_in}
use Rattle.pl_plan.specs.declared.sound.Judged.{Judged}
use Rattle.pl_ops.specs.declared.loaded.Spread.{Spread}
use Rattle.pl_plan.specs.Ends.{ends_in as plan_ends}
use Rattle.ic_desk.specs.Own.{own_ends}
use Rattle.ex_slice.specs.declared.slice.Slice.{Slice}
use Rattle.ex_slice.specs.declared.stage.Stage.{Stage}
use Rattle.ex_slice.specs.Slicing.{working}
use Rattle.gd_world.specs.declared.seat.Seat.{Seat}
use Rattle.gd_world.specs.declared.step.Step.{Step}
use Rattle.gd_world.specs.declared.step.Step.TheVariants as step
use Rattle.gd_world.specs.declared.world.World.{World}
use Rattle.gd_world.specs.Doings.{Answer}
use Rattle.gd_world.specs.Events.{entries_in, asked, segment_at}
use Rattle.gd_world.specs.Sessions.{Sessional}

-- ---- one node

-- the node is in the same query, with the same ends
abbrev pub Stays : Noding → Noding → Type 0
Stays a b = (b.query ≡ a.query) × (b.ends ≡ a.ends)

-- whatever the reply
abbrev pub StaysBy : HubReply → Noding → Noding → Type 0
StaysBy reply a b = Stays a b

-- the node has begun this query with these ends, or stays
abbrev pub BeginsIf : Bool → ℕ → List ConnEnd → Noding → Noding → Type 0
BeginsIf true query ends a b = (b.query ≡ query) × (b.ends ≡ ends)
BeginsIf false query ends a b = Stays a b

-- as the reply says
abbrev pub Begins : ℕ → List ConnEnd → HubReply → Noding → Noding → Type 0
Begins query ends reply a b = BeginsIf (was_begun reply) query ends a b

-- the node has left its query and has no ends of it any more, or stays
abbrev pub LeavesIf : Bool → Noding → Noding → Type 0
LeavesIf true a b = (b.query ≡ a.query) × (b.ends ≡ [])
LeavesIf false a b = Stays a b

-- as the reply says
abbrev pub Leaves : HubReply → Noding → Noding → Type 0
Leaves reply a b = LeavesIf (was_left reply) a b

-- its hub was asked this, which is one entry more; what becomes of its query is as Goes says of the reply
pub record Does (Goes : HubReply → Noding → Noding → Type 0) (ask : HubAsk) (a b : Noding) : Type 0 where
  pub reply : HubReply
  pub place : SamePlace a.hub b.hub
  pub grown : b.entries ≡ a.entries ++ record { ask = ask; reply = reply } ∷ []
  pub goes : Goes reply a b

-- its hub was asked to leave the query, and did if so
pub record DoesLeave (gone : Bool) (query : ℕ) (a b : Noding) : Type 0 where
  pub does : Does Leaves (asks.Leave query) a b
  pub told : was_left does.reply ≡ gone

-- ---- one node of a session

abbrev pub place_in : Noding → Option Entry → Option ℕ
place_in n None = None
place_in n (Some e) = Some (length n.entries)

-- The node of a segment got this entry more, if it is one, and the past this step. All other nodes are as before.
pub record Enters (Goes : Noding → Noding → Type 0) (at : ℤ) (s : Step) (turned : Option Answer) (entry : Option Entry) (a b : Sessional) : Type 0 where
  pub node : Noding
  pub now : Noding
  pub back : at ≡ segment_at (node_of at)
  pub here : slice_get a.nodes (node_of at) ≡ Some node
  pub place : SamePlace node.hub now.hub
  pub grown : now.entries ≡ node.entries ++ entries_in entry
  pub goes : Goes node now
  pub nodes : b.nodes ≡ slice_set a.nodes (node_of at) now
  pub past : b.past ≡ a.past ++ record { step = s; turned = turned; entry = place_in node entry } ∷ []

-- with an entry of this ask
pub record EntersAsked (Goes : HubReply → Noding → Noding → Type 0) (at : ℤ) (s : Step) (ask : HubAsk) (a b : Sessional) : Type 0 where
  pub reply : HubReply
  pub enters : Enters (Goes reply) at s None (asked ask reply) a b

-- with an entry of a leave, which tells whether the node left
pub record EntersLeft (gone : Bool) (at : ℤ) (query : ℕ) (a b : Sessional) : Type 0 where
  pub does : EntersAsked Leaves at (step.Leave at) (asks.Leave query) a b
  pub told : was_left does.reply ≡ gone

-- the node of a segment may begin a query with these ends
pub record CanBegin (at : ℤ) (query : ℕ) (ends : List ConnEnd) (s : Sessional) : Type 0 where
  pub node : Noding
  pub here : slice_get s.nodes (node_of at) ≡ Some node
  pub ends_are : AreEnds (place_of node) query ends
  pub later : node.query < query

-- the node of a segment has this for its last query
pub record IsIn (at : ℤ) (query : ℕ) (s : Sessional) : Type 0 where
  pub node : Noding
  pub here : slice_get s.nodes (node_of at) ≡ Some node
  pub in_it : node.query ≡ query

-- all nodes are as before their first call
pub record AreFresh (session segments : ℕ) (settings : Settings) (s : Sessional) : Type 0 where
  pub count : length s.nodes ≡ segments + 1
  pub each : (k : ℕ) (n : Noding) → slice_get s.nodes k ≡ Some n → n ≡ fresh session (segment_at k) settings

-- ---- a turn

-- A slice took a turn at a desk with these ends: what it says of its slice and of the node.
pub record Sat (own : List ConnEnd) (old new : Working) (answer : Answer) (a b : Noding) : Type 0 where
  pub same : SameWay old.way new.way
  pub node : (b ≡ a) ⊎ Sits own a b
  pub busy : answer ≡ Ok (Waiting Busy) → ⊥
  pub stands : StandsAt new.stage answer
  pub over : old.stage ≡ stages.Done → (answer ≡ Ok Done) × (new ≡ old) × (b ≡ a)
  pub again : (refusal : SliceNo) → old.stage ≡ stages.Refused refusal → (answer ≡ Err refusal) × (new ≡ old) × (b ≡ a)
  pub turns : TurnsAny old new (log_of own a.entries) (log_of own b.entries) answer

-- the place of the entry that was added, if the history has grown
abbrev pub added : ℕ → ℕ → Option ℕ
added seen now = if nat_lt seen now then Some seen else None

-- the slice of this number can take a turn at the node of a segment
pub record CanSit (at : ℤ) (number : ℕ) (x : Working) (s : Sessional) : Type 0 where
  pub node : Noding
  pub here : slice_get s.nodes (node_of at) ≡ Some node
  pub can : is_going x.stage ≡ true → CanTurn (own_ends node.ends number) (log_of (own_ends node.ends number) node.entries) x

-- It took one that was answered so, and the past has it with its answer. All other nodes are as before.
pub record TakesTurn (answer : Answer) (at : ℤ) (number : ℕ) (old new : Working) (a b : Sessional) : Type 0 where
  pub node : Noding
  pub now : Noding
  pub back : at ≡ segment_at (node_of at)
  pub here : slice_get a.nodes (node_of at) ≡ Some node
  pub sat : Sat (own_ends node.ends number) old new answer node now
  pub nodes : b.nodes ≡ slice_set a.nodes (node_of at) now
  pub past : b.past ≡ a.past ++ record { step = step.Turn number at; turned = Some answer; entry = added (length node.entries) (length now.entries) } ∷ []

-- ---- what may be done

-- there is such a node, and its last query is an earlier one
abbrev pub MayBegin : Bool → ℕ → Option Noding → Type 0
MayBegin true query o = (n : Noding) × (o ≡ Some n) × (n.query < query)
MayBegin false query o = (n : Noding) → o ≡ Some n → query ≤ n.query

-- the mark of the node at a position, which says that it has left
abbrev pub marked : Option Bool → Bool
marked None = false
marked (Some gone) = gone

-- the node has begun the query, and isn't marked
abbrev pub InQuery : Bool → ℕ → Noding → Bool → Type 0
InQuery true query n gone = (n.query ≡ query) × (gone ≡ false)
InQuery false query n gone = (n.query ≢ query) ⊎ (gone ≡ true)

-- there is such a node, and it is in the query
abbrev pub MayLeave : Bool → ℕ → Option Noding → Bool → Type 0
MayLeave true query o gone = (n : Noding) × (o ≡ Some n) × InQuery true query n gone
MayLeave false query o gone = (n : Noding) → o ≡ Some n → InQuery false query n gone

-- the node has begun the query, and isn't marked, or the slice is done
abbrev pub MaySit : Bool → ℕ → Noding → Bool → Stage → Type 0
MaySit true query n gone stage = (n.query ≡ query) × ((gone ≡ false) ⊎ (is_at_end stage ≡ true))
MaySit false query n gone stage = (n.query ≢ query) ⊎ ((gone ≡ true) × (is_at_end stage ≡ false))

-- there is such a node and such a slice, and so it is
abbrev pub MayTurn : Bool → ℕ → Option Noding → Bool → Option Slice → Type 0
MayTurn true query o gone worker = (n : Noding) × (slice : Slice) × (o ≡ Some n) × (worker ≡ Some slice) × MaySit true query n gone (working slice).stage
MayTurn false query o gone worker = (n : Noding) (slice : Slice) → o ≡ Some n → worker ≡ Some slice → MaySit false query n gone (working slice).stage

-- these are the ends that a segment has of the plan
abbrev pub EndsOf : World → ℤ → List ConnEnd → Type 0
EndsOf w at ends =
    (n : Noding) → slice_get w.session.nodes (node_of at) ≡ Some n → ends ≡ plan_ends w.plan.now.schemas w.plan.now.segments (tree_in w.plan.now.plan) n.hub.session w.query at

-- ---- before the first step

abbrev pub id_of : ℕ → ℕ → Seat → WorkerId
id_of session query seat = record { session = session; query = query; slice = seat.slice; at = seat.at }

abbrev pub ends_at : Judged → List Spread → ℕ → ℕ → Seat → List ConnEnd
ends_at j tables session query seat = ends_of (worker_of j tables seat.slice seat.at) session query

-- the slice is that of the plan's worker at this seat, before its first turn
pub record IsFreshAt (j : Judged) (tables : List Spread) (session query : ℕ) (seat : Seat) (slice : Slice) : Type 0 where
  pub going : is_going (working slice).stage ≡ true
  pub works : Works (worker_of j tables seat.slice seat.at) (part_for j tables (id_of session query seat)) (working slice) fresh_course
  pub listens : Listening (ends_at j tables session query seat) (part_for j tables (id_of session query seat))
  pub reaches : Reaching (ends_at j tables session query seat) (working slice).way

-- a fresh slice at each of these seats
pub record AreFreshAt (j : Judged) (tables : List Spread) (session query : ℕ) (seats : List Seat) (slices : List Slice) : Type 0 where
  pub count : length slices ≡ length seats
  pub each : (k : ℕ) (seat : Seat) (slice : Slice) → slice_get seats k ≡ Some seat → slice_get slices k ≡ Some slice → IsFreshAt j tables session query seat slice
