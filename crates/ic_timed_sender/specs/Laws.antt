-- What is known of every sending connection that stands for a history.
use Rattle.std.specs.Prelude.{◌≡◌, ℕ, List, [], ◌∷◌, ◌++◌}
use Rattle.ic_base.specs.declared.keys.ConnEnd.{ConnEnd}
use Rattle.ic_base.specs.declared.datagram.Datagram.{Datagram}
use Rattle.ic_law.specs.declared.history.Entry.{Entry}
use Rattle.ic_law.specs.Points.{Place, Every, IsFormed}
use Rattle.ic_law.specs.Armed.{IsArmed}
use Rattle.ic_sender.specs.Entries.{IsSilent}
use Rattle.ic_sender.specs.Standing.{KeepsSending, dues_held, query_at}
use Rattle.ic_timed_sender.specs.Timed.{TimedState}
use Rattle.ic_timed_sender.specs.Emitted.{IsOutgoingOf}
use Rattle.ic_timed_sender.specs.Standing.{Stands}

-- an entry that doesn't concern it leaves it standing
abbrev pub OthersPass : Type 0
OthersPass = (o : TimedState) (h : List Entry) (e : Entry) → IsSilent o.sending.end h e → Stands o h → Stands o (h ++ e ∷ [])

-- each entry of the history kept the points of its end
abbrev pub KeepsLaw : Type 0
KeepsLaw = (o : TimedState) (h : List Entry) → Stands o h → Every (KeepsSending o.sending.settings o.sending.end) h

-- each packet on its way is due soon; if none is and a packet is unsent, a status query is
abbrev pub StaysArmed : Type 0
StaysArmed = (o : TimedState) (h : List Entry) → Stands o h → IsArmed o.sending.settings o.sending.end.key h (dues_held o.sending.conn o.held) (query_at o.sending.asked)

-- a datagram of an end at this place has the form of what a hub there may emit
abbrev pub AreFormed : Type 0
AreFormed = (place : Place) (end : ConnEnd) (packet : ℕ) (d : Datagram) → end.key.session ≡ place.session → end.key.from ≡ place.at → IsOutgoingOf end packet d → IsFormed place d
