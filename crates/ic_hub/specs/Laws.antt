-- What is known of every hub that stands for a history.
use Rattle.std.specs.Prelude.{◌≡◌, ◌↔◌, ℕ, List, Some, slice_get}
use Rattle.ic_base.specs.declared.keys.ConnEnd.{ConnEnd}
use Rattle.ic_law.specs.declared.history.Entry.{Entry}
use Rattle.ic_law.specs.Points.{IsLive}
use Rattle.ic_law.specs.Arriving.{IsLiveQuery}
use Rattle.ic_law.specs.Emission.{EmissionLaw}
use Rattle.ic_law.specs.Armed.{IsArmed}
use Rattle.ic_law.specs.Hub.{HubLaw}
use Rattle.ic_timed_sender.specs.Timed.{TimedState}
use Rattle.ic_sender.specs.Standing.{dues_held, query_at}
use Rattle.ic_hub.specs.Hubbing.{Hubbing, Living, place_in}
use Rattle.ic_hub.specs.Standing.{Stands, IsAmong}
use Rattle.ic_hub.specs.Calls.{IsLiveIn}

abbrev pub KeepsLaw : Type 0
KeepsLaw = (s : Hubbing) (h : List Entry) → Stands s h → HubLaw (place_in s) h × EmissionLaw (place_in s) h

-- each sending connection of a live query
abbrev pub StaysArmed : Type 0
StaysArmed =
    (s : Hubbing) (h : List Entry) → Stands s h → (q i : ℕ) (l : Living) (o : TimedState) → slice_get s.live q ≡ Some l → slice_get l.senders i ≡ Some o
    → IsArmed o.sending.settings o.sending.end.key h (dues_held o.sending.conn o.held) (query_at o.sending.asked)

-- a query is live in a hub exactly if it is in the history
abbrev pub LiveTells : Type 0
LiveTells = (s : Hubbing) (h : List Entry) (query : ℕ) → Stands s h → IsLiveQuery query h ↔ IsLiveIn s query

-- and with the same ends
abbrev pub EndsTell : Type 0
EndsTell = (s : Hubbing) (h : List Entry) (query : ℕ) (ends : List ConnEnd) → Stands s h → IsLive query ends h ↔ IsAmong s.live query ends
