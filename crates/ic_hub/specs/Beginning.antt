-- A query as it begins.
use Rattle.std.specs.Prelude.{◌≡◌, ℕ, List, [], ◌∷◌, length, replicate, true, false, if◌then◌else◌, None}
use Rattle.std.specs.List.{AllByRecursion, flat_map}
use Rattle.ic_base.specs.declared.keys.ConnEnd.{ConnEnd}
use Rattle.ic_base.specs.declared.settings.Settings.{Settings}
use Rattle.ic_law.specs.declared.history.Entry.{Entry}
use Rattle.ic_header.specs.Packets.{IsSegment}
use Rattle.ic_timed_sender.specs.Timed.{TimedState, begun_at}
use Rattle.ic_timed_sender.specs.Standing.{StandsFirst}
use Rattle.ic_conntab.specs.Ends.{motions_of}
use Rattle.ic_receiver.specs.Receiving.{Receiving, begun}
use Rattle.ic_receiver.specs.Standing.{IsUntouched, Stands}
use Rattle.ic_hub.specs.Hubbing.{Living}

-- ---- ends

-- its connection leads between segments
pub record IsBetween (end : ConnEnd) : Type 0 where
  pub from : IsSegment end.key.from
  pub to : IsSegment end.key.to

-- if it sends, its connection as it begins at this tick stands for each history in which it isn't there yet
abbrev pub SendsFirst : Settings → ℕ → ConnEnd → Type 0
SendsFirst settings tick end = end.sending ≡ true → StandsFirst end tick (begun_at end settings tick)

-- if it receives, its connection as it begins stands for each history in which nothing concerns it
abbrev pub ReceivesFirst : Settings → ConnEnd → Type 0
ReceivesFirst settings end = end.sending ≡ false → (h : List Entry) → IsUntouched end h → Stands settings (begun end settings) h

-- ---- connections

-- the connection of an end that sends
abbrev pub sender_begun : Settings → ℕ → ConnEnd → List TimedState
sender_begun settings tick end = if end.sending then begun_at end settings tick ∷ [] else []

-- the connection of an end that receives
abbrev pub receiver_begun : Settings → ConnEnd → List Receiving
receiver_begun settings end = if end.sending then [] else begun end settings ∷ []

-- The query of this number with these ends, of whose connections nothing was put and nothing came, and of whose motions
-- no sender was served.
pub record IsBegun (settings : Settings) (tick number : ℕ) (ends : List ConnEnd) (l : Living) : Type 0 where
  pub number_is : l.number ≡ number
  pub ends_are : l.ends ≡ ends
  pub senders : l.senders ≡ flat_map (sender_begun settings tick) ends
  pub receivers : l.receivers ≡ flat_map (receiver_begun settings) ends
  pub served : l.served ≡ replicate (length (motions_of ends)) None
  pub sends : AllByRecursion (SendsFirst settings tick) ends
  pub receives : AllByRecursion (ReceivesFirst settings) ends
  pub between : AllByRecursion IsBetween ends
