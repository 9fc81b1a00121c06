-- What the histories of all nodes of a session have in common.
use Rattle.std.specs.Prelude.{◌≡◌, ℕ, ◌+◌, ℤ, List, length}
use Rattle.ic_base.specs.declared.keys.ConnKey.{ConnKey}
use Rattle.ic_base.specs.declared.settings.Settings.{Settings}
use Rattle.ic_law.specs.declared.history.Entry.{Entry}
use Rattle.ic_law.specs.Points.{place_at}
use Rattle.ic_law.specs.Hub.{HubLaw}
use Rattle.ic_law.specs.Emission.{EmissionLaw}
use Rattle.ic_law.specs.Streams.{NetworkLaw, StreamLaw, history_of}

-- The histories of the dispatcher and of this many segments. Each datagram that came was emitted. Each hub obeys the
-- hub law and the emission law, and each connection of the session obeys the stream law.
pub record IsSession (session segments : ℕ) (settings : Settings) (nodes : List (List Entry)) : Type 0 where
  pub count : length nodes ≡ segments + 1
  pub network : NetworkLaw nodes
  pub hubs : (segment : ℤ) → HubLaw (place_at session segment settings) (history_of nodes segment)
  pub emission : (segment : ℤ) → EmissionLaw (place_at session segment settings) (history_of nodes segment)
  pub streams : (c : ConnKey) → c.session ≡ session → StreamLaw c (history_of nodes c.from) (history_of nodes c.to)
