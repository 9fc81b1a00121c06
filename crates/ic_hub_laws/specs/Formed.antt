-- The form of what receiving ends and the hub itself answer.
use Rattle.std.specs.Prelude.{◌≡◌, ℕ, List, [], Bool, true, false}
use Rattle.ic_base.specs.declared.keys.ConnEnd.{ConnEnd}
use Rattle.ic_base.specs.declared.datagram.Datagram.{Datagram}
use Rattle.ic_header.specs.declared.header.Header.{Header}
use Rattle.ic_header.specs.declared.flags.Flags.{Flags}
use Rattle.ic_header.specs.Spelling.{Heads}
use Rattle.ic_law.specs.declared.history.Entry.{Entry}
use Rattle.ic_header.specs.Packets.{goes_forth}
use Rattle.ic_law.specs.Points.{Place, IsFormed}
use Rattle.ic_law.specs.Arriving.{IsForeign, turned_back}
use Rattle.ic_header.specs.Packets.{turned_header}
use Rattle.ic_header.specs.Packets.{IsAnswer}
use Rattle.ic_hub_laws.specs.Entries.{IsOurs, IsPacketOf}

-- a datagram of this connection, of the form of what a hub there may emit
pub record IsFormedOf (place : Place) (end : ConnEnd) (forth : Bool) (d : Datagram) : Type 0 where
  pub packet : IsPacketOf end.key forth d
  pub formed : IsFormed place d

-- so is each answer of a receiving end of this place
abbrev pub AnswersAreFormed : Type 0
AnswersAreFormed = (place : Place) (end : ConnEnd) (flags : Flags) (seq extra : ℕ) (body : List ℕ) (d : Datagram) → IsOurs place end → end.sending ≡ false → goes_forth flags ≡ false
    → IsAnswer end flags seq extra body d → IsFormedOf place end false d

-- what is turned back to a datagram that isn't foreign has that form
abbrev pub TurnedIsFormed : Type 0
TurnedIsFormed = (place : Place) (h : List Entry) (d : Datagram) (head : Header) (flags : Flags) → (IsForeign place h d head → ⊥) → goes_forth head.flags ≡ true → goes_forth flags ≡ false
    → Heads (turned_header head flags) [] (turned_back place d head flags).bytes → IsFormed place (turned_back place d head flags)
