-- What a world stands for: whatever query it may be, and whatever was done before it and in it.
use Rattle.std.specs.Prelude.{◌≡◌, ℕ, ◌<◌, ◌≤◌, ℤ, Bool, true, false, List, [], ◌∷◌, ◌++◌, length, Some, slice_get}
use Rattle.ic_base.specs.declared.keys.ConnEnd.{ConnEnd}
use Rattle.ic_law.specs.Streams.{node_of}
use Rattle.pl_tree.specs.Trees.{tree_in}
use Rattle.pl_plan.specs.declared.sound.Judged.{Judged}
use Rattle.pl_plan.specs.Ends.{ends_in as plan_ends}
use Rattle.pl_ops.specs.declared.loaded.Spread.{Spread}
use Rattle.pl_runs.specs.Logs.{log_of}
use Rattle.pl_runs.specs.Distributed.{Query, Courses}
use Rattle.ic_port.specs.Noding.{Noding}
use Rattle.ex_slice.specs.declared.slice.Slice.{Slice}
use Rattle.ex_slice.specs.Slicing.{working}
use Rattle.ex_slice.specs.Working.{fresh_course}
use Rattle.gd_world.specs.declared.seat.Seat.{Seat}
use Rattle.gd_world.specs.declared.world.World.{World}
use Rattle.gd_world.specs.Events.{Event, Running, history_in, segment_at, has_begun, has_left}
use Rattle.gd_world.specs.Sessions.{Sessional, Recalls, IsSessionOf}
use Rattle.gd_world.specs.Turns.{turns_of, logged_by}
use Rattle.gd_world.specs.Workers.{AreSeats, WorkerStands, worker_in, ends_in, seats_in}

-- ---- the query

-- the ends that a segment has of the query
abbrev pub all_ends : Query → ℤ → List ConnEnd
all_ends q at = plan_ends q.site.schemas q.site.segments q.tree q.session q.number at

abbrev pub running : Query → Running
running q = record { number = q.number; ends = all_ends q }

-- the query has this plan and this number
pub record IsOfPlan (q : Query) (plan : Judged) (number : ℕ) : Type 0 where
  pub number_is : number ≡ q.number
  pub schemas : plan.schemas ≡ q.site.schemas
  pub segments : plan.segments ≡ q.site.segments
  pub settings : plan.settings ≡ q.settings
  pub tree : tree_in plan.plan ≡ q.tree

-- Before it has begun the query, a node's last query is an earlier one. Then it is this one, with the ends that the node's segment has
-- of it, or with none once the node has left it.
abbrev pub ReachedBy : Query → ℕ → (begun gone : Bool) → Noding → Type 0
ReachedBy q k true true n = (n.query ≡ q.number) × (n.ends ≡ [])
ReachedBy q k true false n = (n.query ≡ q.number) × (n.ends ≡ all_ends q (segment_at k))
ReachedBy q k false true n = ⊥
ReachedBy q k false false n = n.query < q.number

-- the node at this position after these events of the query
abbrev pub IsReached : Query → ℕ → List Event → Noding → Type 0
IsReached q k es n = ReachedBy q k (has_begun (segment_at k) es) (has_left (segment_at k) es) n

-- ---- what was done

-- the events of earlier queries, and those of this one; and what each worker of this one did
pub record Account : Type 0 where
  pub earlier : List Event
  pub events : List Event
  pub courses : Courses

abbrev pub all_events : Account → List Event
all_events x = x.earlier ++ x.events

-- one event more, after which these are the courses
abbrev pub with_event : Account → Event → Courses → Account
with_event x e courses = record { earlier = x.earlier; events = x.events ++ e ∷ []; courses = courses }

-- ---- what it stands for

-- the worker at this place of the list stands for its turns among the events
abbrev pub StandsAt : Query → Account → Seat → Slice → Type 0
StandsAt q x seat slice =
    WorkerStands (worker_in q seat) (ends_in q seat) (working slice) (turns_of seat.slice seat.at x.events) (x.courses seat.slice seat.at)

-- of its node's history goes by its ends just what its turns log
abbrev pub LogsItsTurns : Query → Account → Seat → Type 0
LogsItsTurns q x seat = log_of (ends_in q seat) (history_in (node_of seat.at) (all_events x)) ≡ logged_by (ends_in q seat) (turns_of seat.slice seat.at x.events)

-- The world runs the query over the session's nodes, whose past and histories are what these events tell, with a worker at each
-- seat of the plan. Each worker stands for its turns, and nothing else is in its log. The nodes that have left are marked.
pub record Stands (q : Query) (x : Account) (w : World) : Type 0 where
  pub plan : IsOfPlan q w.plan.now w.query
  pub session : IsSessionOf q.session q.site.segments q.settings w.session
  pub recalls : Recalls (all_events x) w.session
  pub reached : (k : ℕ) (n : Noding) → slice_get w.session.nodes k ≡ Some n → IsReached q k x.events n
  pub order : w.seats.items ≡ seats_in q
  pub seats : AreSeats q w.seats.items
  pub count : length w.slices.items ≡ length w.seats.items
  pub workers : (k : ℕ) (seat : Seat) (slice : Slice) → slice_get w.seats.items k ≡ Some seat → slice_get w.slices.items k ≡ Some slice → StandsAt q x seat slice
  pub logs : (k : ℕ) (seat : Seat) → slice_get w.seats.items k ≡ Some seat → LogsItsTurns q x seat
  pub marks : length w.left.items ≡ length w.session.nodes
  pub left : (k : ℕ) (gone : Bool) → slice_get w.left.items k ≡ Some gone → gone ≡ has_left (segment_at k) x.events

-- it stands for something
pub record IsWorld (w : World) : Type 0 where
  pub query : Query
  pub account : Account
  pub stands : Stands query account w

-- ---- before its first step

-- The query has this plan, these tables and this number. These events were done in the session, and none of this query.
pub record Starts (q : Query) (es : List Event) (plan : Judged) (tables : List Spread) (number : ℕ) (session : Sessional) : Type 0 where
  pub plan_is : IsOfPlan q plan number
  pub tables_are : tables ≡ q.site.tables
  pub session_is : IsSessionOf q.session q.site.segments q.settings session
  pub recalls : Recalls es session
  pub later : (k : ℕ) (n : Noding) → slice_get session.nodes k ≡ Some n → n.query < q.number

abbrev pub begun_with : List Event → Account
begun_with es = record { earlier = es; events = []; courses = λ slice at. fresh_course }

-- ---- behind its last step

-- A session in which all these events were done, and no later query than this one: the next query may begin.
pub record Closes (q : Query) (x : Account) (session : Sessional) : Type 0 where
  pub session_is : IsSessionOf q.session q.site.segments q.settings session
  pub recalls : Recalls (all_events x) session
  pub upto : (k : ℕ) (n : Noding) → slice_get session.nodes k ≡ Some n → n.query ≤ q.number
