-- What begins of a query at each station, and a session before its first query.
use Rattle.std.specs.Prelude.{◌≡◌, ℕ, ◌+◌, ◌<◌, ◌≤◌, ℤ, pos, negsuc, List, [], length, false, Some, slice_get}
use Rattle.ic_base.specs.declared.keys.ConnEnd.{ConnEnd}
use Rattle.ic_base.specs.declared.settings.Settings.{Settings}
use Rattle.ic_row.specs.declared.value.Value.{Value}
use Rattle.gd_net.specs.Network.{fresh as fresh_net}
use Rattle.gd_work.specs.declared.course.Course.TheVariants.{Going}
use Rattle.gd_work.specs.Sending.{Scanning, Scans}
use Rattle.gd_work.specs.Taking.{Gathering, Gathers}
use Rattle.ic_port.specs.Noding.{fresh as fresh_node}
use Rattle.ic_port.specs.Calls.{Begins}
use Rattle.gd_sim.specs.declared.station.Worker.{Worker}
use Rattle.gd_sim.specs.declared.station.Worker.TheVariants.{Rests, Sends, Takes}
use Rattle.gd_sim.specs.declared.station.Station.{Station}
use Rattle.gd_sim.specs.declared.sim.Sim.{Sim}
use Rattle.gd_sim.specs.declared.begin.Beginning.{Beginning}
use Rattle.gd_sim.specs.Playing.{segment_at, ends_here}

-- ---- one station

-- the ends that a segment has of it
abbrev pub ends_of : Beginning → ℤ → List ConnEnd
ends_of b at = ends_here b.session b.query b.senders at

-- its packets have an allowed size, and there are no more segments that send than segments may be
pub record IsBeginning (b : Beginning) : Type 0 where
  pub least : 128 ≤ b.packet
  pub most : b.packet ≤ 65507
  pub few : b.senders ≤ 64

-- a scanner that put nothing yet, whatever rows it is to send
pub record IsFreshScanner (b : Beginning) (s : Scanning) : Type 0 where
  pub motion : s.motion ≡ 1
  pub to : s.to ≡ negsuc 0
  pub packet : s.packet ≡ b.packet
  pub scans : (rows : List (List Value)) → Scans rows s []

-- a gatherer that took nothing yet
pub record IsFreshGatherer (t : Gathering) : Type 0 where
  pub motion : t.motion ≡ 1
  pub course : t.course ≡ Going
  pub gathers : Gathers t []

-- the worker of a segment, before its first turn
abbrev pub IsFreshWorker : Beginning → ℤ → Worker → Type 0
IsFreshWorker b (negsuc n) Rests = ⊥
IsFreshWorker b (negsuc n) (Sends s) = ⊥
IsFreshWorker b (negsuc n) (Takes t) = IsFreshGatherer t
IsFreshWorker b (pos n) Rests = b.senders ≤ n
IsFreshWorker b (pos n) (Sends s) = (n < b.senders) × IsFreshScanner b s
IsFreshWorker b (pos n) (Takes t) = ⊥

-- the query began there
pub record BeginsAt (b : Beginning) (old new : Station) : Type 0 where
  pub begins : Begins b.query (ends_of b old.node.hub.at) old.node new.node
  pub worker : IsFreshWorker b old.node.hub.at new.worker
  pub stays : new.left ≡ false

-- ---- all of them

-- the station is of its session, and served earlier queries at most
pub record CanBeginAt (b : Beginning) (s : Station) : Type 0 where
  pub session : s.node.hub.session ≡ b.session
  pub later : s.node.query < b.query

abbrev pub CanBegin : Beginning → Sim → Type 0
CanBegin b s = (k : ℕ) (station : Station) → slice_get s.stations.items k ≡ Some station → CanBeginAt b station

-- the station at this place is another now, at which the query began
pub record BegunAt (b : Beginning) (old : List Station) (k : ℕ) (new : Station) : Type 0 where
  pub was : Station
  pub here : slice_get old k ≡ Some was
  pub begins : BeginsAt b was new

-- so it is at each place, and nothing was sent
pub record AllBegin (b : Beginning) (old new : Sim) : Type 0 where
  pub count : length new.stations.items ≡ length old.stations.items
  pub network : new.network ≡ old.network
  pub each : (k : ℕ) (station : Station) → slice_get new.stations.items k ≡ Some station → BegunAt b old.stations.items k station

-- ---- a session

-- the stations of the dispatcher and so many segments, and their network, before the first call
pub record IsNew (session segments : ℕ) (settings : Settings) (drops : List ℕ) (s : Sim) : Type 0 where
  pub count : length s.stations.items ≡ segments + 1
  pub each : (k : ℕ) (station : Station) → slice_get s.stations.items k ≡ Some station → station.node ≡ fresh_node session (segment_at k) settings
  pub network : s.network ≡ fresh_net segments drops
