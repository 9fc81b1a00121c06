-- How the workers of a query and the histories agree, when the query ends and afterwards.
use Rattle.std.specs.Prelude.{◌≡◌, ◌≢◌, ℕ, ◌<◌, ℤ, pos, negsuc, List, ◌++◌, length, Some, slice_get}
use Rattle.std.specs.List.{AllByRecursion}
use Rattle.ic_base.specs.declared.datagram.Parcel.{Parcel}
use Rattle.ic_base.specs.declared.settings.Settings.{Settings}
use Rattle.ic_row.specs.declared.value.Value.{Value}
use Rattle.ic_law.specs.declared.history.Entry.{Entry}
use Rattle.ic_law.specs.Points.{place_at}
use Rattle.ic_law.specs.Taking.{IsWhole}
use Rattle.ic_law.specs.Streams.{history_of}
use Rattle.gd_work.specs.Sending.{Scanning, Scans}
use Rattle.gd_work.specs.Taking.{parcels_of, LetsOut}
use Rattle.ic_law.specs.Logs.{log_of, IsOf, IsOurs}
use Rattle.gd_law.specs.Answers.{gather_key}

-- ---- asks

-- every call that workers made at a node is on a connection that has the call's side there
abbrev pub AreOurs : ℕ → ℤ → Settings → List Entry → Type 0
AreOurs session at settings h = AllByRecursion (λ e. IsOurs (place_at session at settings) e.ask) h

-- the same at each node
abbrev pub AreAllOurs : ℕ → Settings → List (List Entry) → Type 0
AreAllOurs session settings nodes = (segment : ℤ) → AreOurs session segment settings (history_of nodes segment)

-- ---- one query

-- a scanner of the part sends it from here on the gather's connection
pub record IsSent (query packet : ℕ) (part : List (List Value)) (h : List Entry) : Type 0 where
  pub scanning : Scanning
  pub motion : scanning.motion ≡ 1
  pub to : scanning.to ≡ negsuc 0
  pub packet_is : scanning.packet ≡ packet
  pub scans : Scans part scanning (log_of query h)

-- the parcel is from one of this many segments
abbrev pub IsFromOne : ℕ → Parcel → Type 0
IsFromOne senders p = (segment : ℕ) × (segment < senders) × (p.from ≡ pos segment)

-- the rows are those that the parcels taken here let out; the parcels are from this many segments, and each one's end
-- was taken
pub record IsTaken (session query senders : ℕ) (rows : List (List Value)) (h : List Entry) : Type 0 where
  pub lets_out : LetsOut (parcels_of 1 (log_of query h)) rows
  pub from : AllByRecursion (IsFromOne senders) (parcels_of 1 (log_of query h))
  pub whole : (segment : ℕ) → segment < senders → IsWhole (gather_key session query segment) h

-- a query whose workers are done
pub record IsPlayed (session query packet : ℕ) (parts : List (List (List Value))) (nodes : List (List Entry)) (rows : List (List Value)) : Type 0 where
  pub sent : (segment : ℕ) (part : List (List Value)) → slice_get parts segment ≡ Some part → IsSent query packet part (history_of nodes (pos segment))
  pub taken : IsTaken session query (length parts) rows (history_of nodes (negsuc 0))

-- ---- later

-- the history grew by entries in which no worker of this query makes a call
pub record GrowsPast (query : ℕ) (h now : List Entry) : Type 0 where
  pub other : ℕ
  pub differs : other ≢ query
  pub more : List Entry
  pub grown : now ≡ h ++ more
  pub of : AllByRecursion (λ e. IsOf other e.ask) more

-- each history did
abbrev pub AllGrowPast : ℕ → (nodes now : List (List Entry)) → Type 0
AllGrowPast query nodes now = (segment : ℤ) → GrowsPast query (history_of nodes segment) (history_of now segment)
