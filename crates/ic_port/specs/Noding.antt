-- A hub with its history, as contracts see it, and what is always true of it.
use Rattle.std.specs.Prelude.{◌≢◌, ℕ, ℤ, List, [], Option, Some, None}
use Rattle.std.specs.List.{AllByRecursion}
use Rattle.ic_base.specs.declared.keys.ConnEnd.{ConnEnd}
use Rattle.ic_base.specs.declared.settings.Settings.{Settings}
use Rattle.ic_base.specs.declared.datagram.Datagram.{Datagram}
use Rattle.ic_law.specs.declared.history.Entry.{Entry}
use Rattle.ic_law.specs.History.{emits}
use Rattle.ic_law.specs.Points.{Place, IsLive}
use Rattle.ic_law.specs.Asking.{AreEnds}
use Rattle.ic_law.specs.Emission.{EmissionLaw}
use Rattle.ic_law.specs.Hub.{HubLaw}
use Rattle.ic_hub.specs.Hubbing.{Hubbing, place_in}
use Rattle.ic_hub.specs.Hubbing.{fresh as fresh_hub}
use Rattle.ic_hub.specs.Standing.{Stands}
use Rattle.ic_law.specs.Logs.{IsOurs, IsUpto}

-- ---- what it is

pub record Noding : Type 0 where
  pub hub : Hubbing
  -- the last query that was begun, and 0 before the first
  pub query : ℕ
  -- its ends here, and none once it was left
  pub ends : List ConnEnd
  -- what the hub was asked, with its replies
  pub entries : List Entry

-- before the first call
abbrev pub fresh : ℕ → ℤ → Settings → Noding
fresh session at settings = record { hub = fresh_hub session at settings; query = 0; ends = []; entries = [] }

-- what was emitted with an entry, if there is one
abbrev pub emitted_with : Option Entry → List Datagram
emitted_with None = []
emitted_with (Some e) = emits e

-- where it is
abbrev pub place_of : Noding → Place
place_of n = place_in n.hub

-- ---- what is always true

-- Its hub stands for its entries, which keep the laws of hubs. What workers asked is of connections that have their side
-- here, and of its query or of earlier ones. If its query has ends here, it is live with them.
pub record IsLawful (n : Noding) : Type 0 where
  pub stands : Stands n.hub n.entries
  pub law : HubLaw (place_of n) n.entries
  pub emission : EmissionLaw (place_of n) n.entries
  pub ours : AllByRecursion (λ e. IsOurs (place_of n) e.ask) n.entries
  pub upto : AllByRecursion (λ e. IsUpto n.query e.ask) n.entries
  pub ends_are : AreEnds (place_of n) n.query n.ends
  pub live : n.ends ≢ [] → IsLive n.query n.ends n.entries

-- what the code keeps true; the laws follow from the first
pub record IsNode (n : Noding) : Type 0 where
  pub stands : Stands n.hub n.entries
  pub ours : AllByRecursion (λ e. IsOurs (place_of n) e.ask) n.entries
  pub upto : AllByRecursion (λ e. IsUpto n.query e.ask) n.entries
  pub ends_are : AreEnds (place_of n) n.query n.ends
  pub live : n.ends ≢ [] → IsLive n.query n.ends n.entries
