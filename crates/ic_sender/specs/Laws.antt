-- What is known of every sending connection that stands for a history.
use Rattle.std.specs.Prelude.{◌≡◌, ◌↔◌, ℕ, List, [], ◌∷◌, ◌++◌}
use Rattle.ic_base.specs.declared.keys.ConnEnd.{ConnEnd}
use Rattle.ic_base.specs.declared.settings.Settings.{Settings}
use Rattle.ic_base.specs.declared.datagram.Datagram.{Datagram}
use Rattle.ic_base.specs.Settings.{AreChecked}
use Rattle.ic_expire.specs.declared.item.Item.{Item}
use Rattle.ic_expire.specs.Queue.{held_of}
use Rattle.ic_law.specs.declared.history.Entry.{Entry}
use Rattle.ic_law.specs.Points.{Every}
use Rattle.ic_law.specs.Clock.{clock_of}
use Rattle.ic_law.specs.Armed.{IsArmed}
use Rattle.ic_sender.specs.Sending.{Sending, begun}
use Rattle.ic_sender.specs.Entries.{IsSilent, IsTicking, Ticks}
use Rattle.ic_sender.specs.Standing.{IsNamed, IsUntouched, KeepsSending, Stands, HoldsNone, IsOver, IsOverIn, dues_held, query_at}

-- one of which nothing was put stands for each history in which nothing of it is
abbrev pub NewStands : Type 0
NewStands = (end : ConnEnd) (conn : ℕ) (settings : Settings) (held : List Item) (h : List Entry) → IsNamed end → AreChecked settings → HoldsNone conn held → IsUntouched end h → Stands (begun end conn settings) held h

-- a tick, by its four calls
abbrev pub TicksStand : Type 0
TicksStand = (s : Sending) (held : List Item) (now : ℕ) (mine : List Datagram) (new : Sending) (left : List Item) (h : List Entry) (e : Entry)
    → Ticks now s held mine new left → clock_of (h ++ e ∷ []) ≡ now → IsTicking s.end.key mine e → Stands s held h → Stands new left (h ++ e ∷ [])

-- an entry that doesn't concern a connection leaves it standing
abbrev pub OthersPass : Type 0
OthersPass = (s : Sending) (held : List Item) (h : List Entry) (e : Entry) → IsSilent s.end h e → Stands s held h → Stands s held (h ++ e ∷ [])

-- so does what waits for other connections
abbrev pub OthersWait : Type 0
OthersWait = (s : Sending) (held left : List Item) (h : List Entry) → held_of s.conn left ≡ held_of s.conn held → Stands s held h → Stands s left h

-- each entry of the history kept the points of the end
abbrev pub KeepsLaw : Type 0
KeepsLaw = (s : Sending) (held : List Item) (h : List Entry) → Stands s held h → Every (KeepsSending s.settings s.end) h

-- each packet on its way is due soon; if none is and a packet is unsent, a status query is
abbrev pub StaysArmed : Type 0
StaysArmed = (s : Sending) (held : List Item) (h : List Entry) → Stands s held h → IsArmed s.settings s.end.key h (dues_held s.conn held) (query_at s.asked)

-- it is over if the history says so
abbrev pub OverTells : Type 0
OverTells = (s : Sending) (held : List Item) (h : List Entry) → Stands s held h → IsOver s ↔ IsOverIn s.end.key h
