-- How the queries of a session go, one after another.
use Rattle.std.specs.Prelude.{◌≡◌, ℕ, ◌+◌, ◌<◌, ◌≤◌, ℤ, List, length, Option, Some, None, Result, Ok, Err, slice_get}
use Rattle.ic_base.specs.declared.settings.Settings.{Settings}
use Rattle.ic_row.specs.declared.value.Value.{Value}
use Rattle.pl_ops.specs.declared.loaded.Spread.{Spread}
use Rattle.gd_work.specs.Taking.{Gathering}
use Rattle.gd_law.specs.Playing.{IsPlayed}
use Rattle.gd_sim.specs.declared.begin.Beginning.{Beginning}
use Rattle.gd_sim.specs.declared.fault.SimNo.{SimNo}
use Rattle.gd_sim.specs.declared.fault.SimNo.TheVariants as sim
use Rattle.gd_sim.specs.declared.feed.Feed.{Feed}
use Rattle.gd_sim.specs.declared.run.FirstNo.{FirstNo}
use Rattle.gd_sim.specs.declared.run.FirstNo.TheVariants.{Spent, TooLong}
use Rattle.gd_sim.specs.declared.run.QueryNo.{QueryNo}
use Rattle.gd_sim.specs.declared.run.QueryNo.TheVariants as query_no
use Rattle.gd_sim.specs.declared.station.Worker.{Worker}
use Rattle.gd_sim.specs.declared.station.Worker.TheVariants.{Takes}
use Rattle.gd_sim.specs.declared.station.Station.{Station}
use Rattle.gd_sim.specs.declared.sim.Sim.{Sim}
use Rattle.gd_sim.specs.Feeding.{parts_of}
use Rattle.gd_sim.specs.Playing.{Gather, senders, IsSim, AllGrow, AreRows, nodes_of}
use Rattle.gd_sim.specs.Run.{AllLeft, HasCause}

-- ---- faults

-- what a refusal is to who asked for the run
abbrev pub query_fault : SimNo → QueryNo
query_fault (sim.Spent key seq tries) = query_no.Fault (Spent key seq tries)
query_fault (sim.TooLong key) = query_no.Fault (TooLong key)
query_fault sim.Memory = query_no.Memory

-- ---- rows

-- if the worker gathered, these are its rows
abbrev pub GivesRows : Worker → List (List Value) → Type 0
GivesRows worker rows = (t : Gathering) → worker ≡ Takes t → rows ≡ t.rows

-- ---- one query

-- the last query of each station
abbrev pub AllServe : ℕ → List Station → Type 0
AllServe query stations = (k : ℕ) (station : Station) → slice_get stations k ≡ Some station → station.node.query ≡ query

-- each served earlier queries at most
abbrev pub AllServeBefore : ℕ → List Station → Type 0
AllServeBefore query stations = (k : ℕ) (station : Station) → slice_get stations k ≡ Some station → station.node.query < query

-- this gather begins so, with the rows of the stations by segment
pub record Starts (g : Gather) (b : Beginning) (rows_at : ℤ → List (List Value)) (s : Sim) : Type 0 where
  pub sim : IsSim g.session g.segments g.settings s
  pub before : AllServeBefore g.query s.stations.items
  pub session : b.session ≡ g.session
  pub query : b.query ≡ g.query
  pub packet : b.packet ≡ g.settings.packet
  pub count : b.senders ≡ senders g
  pub one_sends : 0 < senders g
  pub few : senders g ≤ g.segments
  pub rows_are : AreRows g rows_at

pub record CanStart (b : Beginning) (rows_at : ℤ → List (List Value)) (s : Sim) : Type 0 where
  pub gather : Gather
  pub starts : Starts gather b rows_at s

-- the query ran, over or not: the session is one still, and its histories grew by what this query's workers asked
pub record Ran (g : Gather) (old new : Sim) : Type 0 where
  pub sim : IsSim g.session g.segments g.settings new
  pub serve : AllServe g.query new.stations.items
  pub grow : AllGrow g.query old new

-- and it is over with these rows, and every node has left it
pub record RanOver (g : Gather) (old new : Sim) (rows : List (List Value)) : Type 0 where
  pub ran : Ran g old new
  pub played : IsPlayed g.session g.query g.settings.packet g.parts (nodes_of new.stations.items) rows
  pub left : AllLeft (nodes_of new.stations.items) g.query

-- or it isn't, for this cause
pub record RanInto (rounds : ℕ) (g : Gather) (old new : Sim) (fault : FirstNo) : Type 0 where
  pub ran : Ran g old new
  pub cause : HasCause rounds g.query (nodes_of new.stations.items) fault

abbrev pub Ends : (rounds : ℕ) → Gather → (old new : Sim) → Result (List (List Value)) QueryNo → Type 0
Ends rounds g old new (Ok rows) = RanOver g old new rows
Ends rounds g old new (Err (query_no.Fault fault)) = RanInto rounds g old new fault
Ends rounds g old new (Err query_no.Memory) = Unit {0}

-- ---- all queries

-- the query of this place is over with these rows, and every node has left it
pub record IsOver (session : ℕ) (settings : Settings) (loaded : List Spread) (feeds : List Feed) (s : Sim) (place : ℕ) (rows : List (List Value)) : Type 0 where
  pub feed : Feed
  pub here : slice_get feeds place ≡ Some feed
  pub played : IsPlayed session (place + 1) settings.packet (parts_of loaded feed) (nodes_of s.stations.items) rows
  pub left : AllLeft (nodes_of s.stations.items) (place + 1)

-- a session in which the first queries are over with these rows
pub record AreOver (session segments : ℕ) (settings : Settings) (loaded : List Spread) (feeds : List Feed) (s : Sim) (lists : List (List (List Value))) : Type 0 where
  pub sim : IsSim session segments settings s
  pub each : (place : ℕ) (rows : List (List Value)) → slice_get lists place ≡ Some rows → IsOver session settings loaded feeds s place rows

-- it serves the last of them, or none yet
pub record Stands (session segments : ℕ) (settings : Settings) (loaded : List Spread) (feeds : List Feed) (s : Sim) (lists : List (List (List Value))) : Type 0 where
  pub over : AreOver session segments settings loaded feeds s lists
  pub serve : AllServe (length lists) s.stations.items

-- One query more is over; or the one after those that are over isn't, for this cause.
abbrev pub GoesOn : (session segments rounds : ℕ) → Settings → List Spread → List Feed → (new : Sim) → (lists more : List (List (List Value))) → Option FirstNo → Type 0
GoesOn session segments rounds settings loaded feeds new lists more None = Stands session segments settings loaded feeds new more × (length more ≡ length lists + 1)
GoesOn session segments rounds settings loaded feeds new lists more (Some fault) =
    AreOver session segments settings loaded feeds new more × (more ≡ lists) × HasCause rounds (length lists + 1) (nodes_of new.stations.items) fault × AllServe (length lists + 1) new.stations.items

-- All queries are over; or one isn't, for this cause.
abbrev pub EndAll : (session segments rounds : ℕ) → Settings → List Spread → List Feed → (new : Sim) → (lists : List (List (List Value))) → Option FirstNo → Type 0
EndAll session segments rounds settings loaded feeds new lists None = AreOver session segments settings loaded feeds new lists × (length lists ≡ length feeds)
EndAll session segments rounds settings loaded feeds new lists (Some fault) =
    AreOver session segments settings loaded feeds new lists × (length lists < length feeds) × HasCause rounds (length lists + 1) (nodes_of new.stations.items) fault
    × AllServe (length lists + 1) new.stations.items
