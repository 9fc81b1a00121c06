-- The histories that a hub stands for.
use Rattle.std.specs.Prelude.{◌≡◌, ◌↔◌, ℕ, ℤ, List, [], Option, Some, None, slice_get}
use Rattle.ic_base.specs.declared.keys.ConnEnd.{ConnEnd}
use Rattle.ic_base.specs.declared.settings.Settings.{Settings}
use Rattle.ic_law.specs.declared.history.Entry.{Entry}
use Rattle.ic_law.specs.Queries.{left_of}
use Rattle.ic_law.specs.Points.{IsLive}
use Rattle.ic_law.specs.Arriving.{LastServed, IsGreatestLeft}
use Rattle.ic_law.specs.Clock.{clock_of}
use Rattle.ic_timed_sender.specs.Timed.{TimedState}
use Rattle.ic_timed_sender.specs.Standing.{Stands as SenderStands}
use Rattle.ic_conntab.specs.Ends.{motions_of}
use Rattle.ic_receiver.specs.Receiving.{Receiving}
use Rattle.ic_receiver.specs.Standing.{Stands as ReceiverStands}
use Rattle.ic_hub_laws.specs.Laws.{Goes}
use Rattle.ic_hub.specs.Hubbing.{Hubbing, Living, place_in}

-- each connection of a live query stands for the history, and the takes of any served these senders last
pub record LivingStands (settings : Settings) (l : Living) (h : List Entry) : Type 0 where
  pub senders : (i : ℕ) (o : TimedState) → slice_get l.senders i ≡ Some o → SenderStands o h
  pub receivers : (i : ℕ) (r : Receiving) → slice_get l.receivers i ≡ Some r → ReceiverStands settings r h
  pub served : (i motion : ℕ) (last : Option ℤ) → slice_get (motions_of l.ends) i ≡ Some motion → slice_get l.served i ≡ Some last → LastServed l.number motion h last

-- the greatest query that was left, if one was
abbrev pub IsTop : Option ℕ → List Entry → Type 0
IsTop None h = left_of h ≡ []
IsTop (Some top) h = IsGreatestLeft h top

-- one of these is the query with these ends
pub record IsAmong (live : List Living) (query : ℕ) (ends : List ConnEnd) : Type 0 where
  pub at : ℕ
  pub living : Living
  pub here : slice_get live at ≡ Some living
  pub number : living.number ≡ query
  pub ends_are : living.ends ≡ ends

-- A hub stands for a history that keeps the laws of hubs, and is what the history says of it.
pub record Stands (s : Hubbing) (h : List Entry) : Type 0 where
  pub goes : Goes (place_in s) h
  pub clock : clock_of h ≡ s.tick
  pub top : IsTop s.top h
  pub live : (query : ℕ) (ends : List ConnEnd) → IsLive query ends h ↔ IsAmong s.live query ends
  pub each : (i : ℕ) (l : Living) → slice_get s.live i ≡ Some l → LivingStands s.settings l h
