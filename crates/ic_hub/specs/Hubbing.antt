-- A hub, as contracts see it.
use Rattle.std.specs.Prelude.{◌≡◌, ℕ, ◌<◌, ◌≤◌, ◌==◌, ⊤, ℤ, List, [], ◌∷◌, length, map, if◌then◌else◌, Option, Some, None}
use Rattle.std.specs.List.{AllByRecursion}
use Rattle.std.specs.FinMap.{get}
use Rattle.ic_base.specs.declared.keys.ConnKey.{ConnKey}
use Rattle.ic_base.specs.declared.keys.ConnEnd.{ConnEnd}
use Rattle.ic_base.specs.declared.settings.Settings.{Settings}
use Rattle.ic_base.specs.Settings.{AreChecked}
use Rattle.ic_conntab.specs.Table.{Table}
use Rattle.ic_law.specs.Points.{Place, place_at}
use Rattle.ic_law.specs.Asking.{AreEnds}
use Rattle.ic_law.specs.Clock.{last_tick}
use Rattle.ic_hub_laws.specs.Entries.{IsOurs}
use Rattle.ic_timed_sender.specs.Timed.{TimedState}
use Rattle.ic_conntab.specs.Ends.{sending_ends, receiving_ends, keys_of, motions_of}
use Rattle.ic_receiver.specs.Receiving.{Receiving}

-- ---- what it is

-- a live query, with its ends here in the order in which it began with them
pub record Living : Type 0 where
  pub number : ℕ
  pub ends : List ConnEnd
  -- of the sending ends, in their order
  pub senders : List TimedState
  -- of the receiving ends, in their order
  pub receivers : List Receiving
  -- for each motion that ends here, the sender that a take of any served last, if one did
  pub served : List (Option ℤ)

pub record Hubbing : Type 0 where
  pub session : ℕ
  pub at : ℤ
  pub settings : Settings
  -- the tick at which it is
  pub tick : ℕ
  -- how many datagrams were dropped
  pub dropped : ℕ
  -- the greatest query that has ended, if any has
  pub top : Option ℕ
  -- by number
  pub live : List Living

-- of which no query has begun
abbrev pub fresh : ℕ → ℤ → Settings → Hubbing
fresh session at settings = record { session = session; at = at; settings = settings; tick = 0; dropped = 0; top = None; live = [] }

-- where it is
abbrev pub place_in : Hubbing → Place
place_in s = place_at s.session s.at s.settings

-- ---- what is always true

-- each end of a query has its connection
pub record IsLiving (l : Living) : Type 0 where
  pub senders : map (λ (o : TimedState). o.sending.end) l.senders ≡ sending_ends l.ends
  pub receivers : map (λ (r : Receiving). r.end) l.receivers ≡ receiving_ends l.ends
  pub served : length l.served ≡ length (motions_of l.ends)

-- the ends of a query are ends here, and its connections are of this hub's settings and at its tick
pub record IsOfHub (place : Place) (tick : ℕ) (l : Living) : Type 0 where
  pub living : IsLiving l
  pub ends : AreEnds place l.number l.ends
  pub ours : AllByRecursion (IsOurs place) l.ends
  pub settings : AllByRecursion (λ (o : TimedState). o.sending.settings ≡ place.settings) l.senders
  pub tick_is : AllByRecursion (λ (o : TimedState). o.now ≡ tick) l.senders

-- the keys of a live query, if it is one
abbrev pub keys_in : List Living → ℕ → Option (List ConnKey)
keys_in [] query = None
keys_in (l ∷ ls) query = if l.number == query then Some (keys_of l.ends) else keys_in ls query

-- the table has the connections of the live queries
abbrev pub IsTabled : Table → List Living → Type 0
IsTabled table live = (query : ℕ) → get table.live query ≡ keys_in live query

-- each number is less than the later ones
abbrev pub Ascend : List Living → Type 0
Ascend [] = ⊤
Ascend (l ∷ ls) = AllByRecursion (λ (m : Living). l.number < m.number) ls × Ascend ls

pub record IsHub (s : Hubbing) (table : Table) : Type 0 where
  pub session : table.session ≡ s.session
  pub top : table.top ≡ s.top
  pub tabled : IsTabled table s.live
  pub ascend : Ascend s.live
  pub each : AllByRecursion (IsOfHub (place_in s) s.tick) s.live
  pub checked : AreChecked s.settings
  pub last : s.tick ≤ last_tick
