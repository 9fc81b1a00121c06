-- What each call makes of a station, and of all of them.
use Rattle.std.specs.Prelude.{◌≡◌, ◌⊎◌, ℕ, ◌<◌, ℤ, pos, negsuc, List, [], ◌∷◌, ◌++◌, Bool, true, false, Err, Some, Contains, slice_get, slice_index_or}
use Rattle.std.specs.List.{All}
use Rattle.ic_base.specs.declared.keys.ConnKey.{ConnKey}
use Rattle.ic_base.specs.declared.datagram.Datagram.{Datagram}
use Rattle.ic_row.specs.declared.value.Value.{Value}
use Rattle.ic_row.specs.Spelling.{HasLengths}
use Rattle.ic_law.specs.declared.history.HubAsk.TheVariants.{Tick}
use Rattle.ic_law.specs.declared.history.HubReply.TheVariants.{Ticked, Gave}
use Rattle.ic_law.specs.declared.history.HubNo.TheVariants as hub
use Rattle.ic_law.specs.declared.history.TickNo.{TickNo}
use Rattle.ic_law.specs.declared.history.TickNo.TheVariants as tick
use Rattle.ic_law.specs.declared.history.Entry.{Entry}
use Rattle.ic_law.specs.History.{emitted_of, arrived_of}
use Rattle.gd_net.specs.Network.{Net}
use Rattle.gd_work.specs.declared.course.WorkNo.{WorkNo}
use Rattle.gd_work.specs.declared.course.WorkNo.TheVariants as work
use Rattle.gd_work.specs.Sending.{Scanning}
use Rattle.gd_work.specs.Taking.{Gathering}
use Rattle.ic_port.specs.Noding.{Noding, IsLawful}
use Rattle.gd_sim.specs.declared.fault.SimNo.{SimNo}
use Rattle.gd_sim.specs.declared.fault.SimNo.TheVariants as sim
use Rattle.gd_sim.specs.declared.station.Station.{Station}
use Rattle.gd_sim.specs.declared.sim.Sim.{Sim}
use Rattle.gd_sim.specs.Playing.{Gather, senders, ends_at, SendsPart, TakesAll, Plays, AllPlay, AreRows, AllGrow, GrowsOwn, Grows}
use Rattle.gd_sim.specs.Run.{IsLast, PutsOn, IsUsedUp}

-- ---- refusals

abbrev pub work_fault : WorkNo → SimNo
work_fault (work.TooLong key) = sim.TooLong key
work_fault (work.Malformed sender) = sim.Memory
work_fault work.Memory = sim.Memory

abbrev pub tick_fault : TickNo → SimNo
tick_fault (tick.Spent key seq tries) = sim.Spent key seq tries
tick_fault tick.Memory = sim.Memory

-- the last entry of a history is this one
abbrev pub EndsWith : List Entry → Entry → Type 0
EndsWith h e = (before : List Entry) × (h ≡ before ++ e ∷ [])

-- a put on this connection was the last ask, and was refused since the numbers of packets are used up
pub record EndsUsedUp (h : List Entry) (key : ConnKey) : Type 0 where
  pub entry : Entry
  pub last : EndsWith h entry
  pub ask : PutsOn key entry.ask
  pub which : ConnKey
  pub reply : entry.reply ≡ Gave (Err (hub.TooLong which))

-- what a station's last entry tells of its refusal
abbrev pub EndsSo : List Entry → SimNo → Type 0
EndsSo h (sim.Spent key seq tries) = EndsWith h (record { ask = Tick; reply = Ticked (Err (tick.Spent key seq tries)) })
EndsSo h (sim.TooLong key) = EndsUsedUp h key
EndsSo h sim.Memory = Unit {0}

-- what the last entry of some node tells of a refusal
abbrev pub HasFault : List (List Entry) → SimNo → Type 0
HasFault nodes (sim.Spent key seq tries) = IsLast nodes (record { ask = Tick; reply = Ticked (Err (tick.Spent key seq tries)) })
HasFault nodes (sim.TooLong key) = IsUsedUp nodes key
HasFault nodes sim.Memory = Unit {0}

-- ---- one station

-- the rows are the part of a segment that sends, and can be spelled
abbrev pub AreRowsAt : Gather → ℤ → List (List Value) → Type 0
AreRowsAt g (pos n) rows = n < senders g → (slice_index_or g.parts n [] ≡ rows) × All HasLengths rows
AreRowsAt g (negsuc n) rows = Unit {0}

-- it serves a query of which these are its rows
pub record CanTurn (rows : List (List Value)) (s : Station) : Type 0 where
  pub gather : Gather
  pub segment : ℤ
  pub plays : Plays gather segment s
  pub rows_are : AreRowsAt gather segment rows

-- it serves each query that it served, while it is handed the rows of that
abbrev pub TurnKeeps : List (List Value) → Station → Station → Type 0
TurnKeeps rows a b = (g : Gather) (segment : ℤ) → Plays g segment a → AreRowsAt g segment rows → Plays g segment b

-- it serves each query that it served
abbrev pub Keeps : Station → Station → Type 0
Keeps a b = (g : Gather) (segment : ℤ) → Plays g segment a → Plays g segment b

-- its history grew by what it did of its own accord
abbrev pub Acts : Station → Station → Type 0
Acts a b = GrowsOwn a.node.query a.node.entries b.node.entries

-- its history grew by the datagram that came
pub record Hears (d : Datagram) (a b : Station) : Type 0 where
  pub grows : Grows a.node.query a.node.entries b.node.entries
  pub came : arrived_of grows.more ≡ d ∷ []

-- a scanner of these rows sends them on for each query that it sent them for
abbrev pub SendsOn : List (List Value) → Scanning → Scanning → Noding → Noding → Type 0
SendsOn rows s t a b = (g : Gather) → a.query ≡ g.query → SendsPart g rows s a.entries → SendsPart g rows t b.entries

-- a gatherer takes on for each query that it took for, with its ends here
abbrev pub TakesOn : Gathering → Gathering → Noding → Noding → Type 0
TakesOn s t a b = (g : Gather) → a.query ≡ g.query → a.ends ≡ ends_at g (negsuc 0) → TakesAll g s a.entries → TakesAll g t b.entries

-- ---- the network

-- what is kept was kept before, or is one of these datagrams
abbrev pub KeepsOrSent : List Datagram → Net → Net → Type 0
KeepsOrSent ds a b = (d : Datagram) → Contains b.kept d → Contains a.kept d ⊎ Contains ds d

-- what is kept was kept before, or was emitted with these entries
abbrev pub KeepsOrEmitted : List Entry → Net → Net → Type 0
KeepsOrEmitted entries = KeepsOrSent (emitted_of entries)

-- ---- all stations

-- they serve a query of which these are the rows, by segment
pub record CanPlay (rows_at : ℤ → List (List Value)) (s : Sim) : Type 0 where
  pub gather : Gather
  pub play : AllPlay gather s
  pub rows_are : AreRows gather rows_at

-- they serve the query on, and the histories grew by what it asked
pub record Goes (g : Gather) (a b : Sim) : Type 0 where
  pub play : AllPlay g b
  pub grow : AllGrow g.query a b

-- so it is with each query that they served of which these are the rows
abbrev pub PlayGoes : (ℤ → List (List Value)) → Sim → Sim → Type 0
PlayGoes rows_at a b = (g : Gather) → AllPlay g a → AreRows g rows_at → Goes g a b

-- so it is with each query that they served
abbrev pub AllGoes : Sim → Sim → Type 0
AllGoes a b = (g : Gather) → AllPlay g a → Goes g a b

-- ---- laws

-- the entries of each station keep the laws of hubs
abbrev pub AreLawful : List Station → Type 0
AreLawful stations = (k : ℕ) (station : Station) → slice_get stations k ≡ Some station → IsLawful station.node

-- so do those of the station at this place
abbrev pub IsLawfulAt : List Station → ℕ → Type 0
IsLawfulAt stations place = (station : Station) → slice_get stations place ≡ Some station → IsLawful station.node

-- ---- the end

-- each station has left the query, or some has not
abbrev pub TellsOver : List Station → Bool → Type 0
TellsOver stations true = (k : ℕ) (station : Station) → slice_get stations k ≡ Some station → station.left ≡ true
TellsOver stations false = (k : ℕ) × (station : Station) × (slice_get stations k ≡ Some station) × (station.left ≡ false)
