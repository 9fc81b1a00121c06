-- The histories that a receiving connection stands for.
use Rattle.std.specs.Prelude.{◌≡◌, ℕ, ◌≤◌, min, List, [], ◌∷◌, ◌++◌, length, Some, None, Contains}
use Rattle.ic_base.specs.declared.keys.ConnEnd.{ConnEnd}
use Rattle.ic_base.specs.declared.settings.Settings.{Settings}
use Rattle.ic_base.specs.declared.datagram.Datagram.{Datagram}
use Rattle.ic_base.specs.declared.datagram.Parcel.{Parcel}
use Rattle.ic_row.specs.declared.value.Value.{Value}
use Rattle.ic_chunk.specs.Counts.{HasCounted, greatest_count}
use Rattle.ic_recvring.specs.Ring.{Ring, Packet, stored_of}
use Rattle.ic_law.specs.declared.history.Entry.{Entry}
use Rattle.ic_header.specs.Packets.{RowPacket}
use Rattle.ic_law.specs.Taking.{payloads_of, whole_of, IsHalted}
use Rattle.ic_law.specs.Storing.{stored_of as stored_in, stored_numbers_of}
use Rattle.ic_law.specs.Points.{Every, IsEnded}
use Rattle.ic_law.specs.Receiving.{consumed_of, IsNext, IsTaken, Receives}
use Rattle.ic_law.specs.Streams.{AreTaken}
use Rattle.ic_receiver.specs.Receiving.{Receiving}
use Rattle.ic_receiver.specs.Entries.{row_of, IsSilent}

-- a ring is what the history says of the end: the same numbers were stored, and what is kept was stored
pub record Mirrors (settings : Settings) (end : ConnEnd) (ring : Ring) (h : List Entry) : Type 0 where
  pub running : IsHalted end.key h → ⊥
  pub least : 64 ≤ settings.packet
  pub packet : ring.packet ≡ settings.packet
  pub depth : ring.depth ≡ settings.receive_depth
  pub consumed : ring.consumed ≡ consumed_of end.key h
  pub stored : (n : ℕ) → Contains (stored_of ring) n → Contains (stored_numbers_of end.key h) n
  pub back : (n : ℕ) → Contains (stored_numbers_of end.key h) n → Contains (stored_of ring) n
  pub kept : (p : Packet) → Contains ring.kept p → Contains (stored_in end.key h) (row_of p)

-- a connection is what the history says of it
pub record Reflects (settings : Settings) (s : Receiving) (h : List Entry) : Type 0 where
  pub whole : whole_of s.end.key h ≡ s.whole
  pub halted : s.ring ≡ None → IsHalted s.end.key h
  pub runs : (ring : Ring) → s.ring ≡ Some ring → Mirrors settings s.end ring h
  pub rows : HasCounted (payloads_of s.end.key h) s.rows

-- a connection stands for a history: each entry kept the points of its end, and it is what the history says of it
pub record Stands (settings : Settings) (s : Receiving) (h : List Entry) : Type 0 where
  pub law : Every (Receives settings s.end) h
  pub reflects : Reflects settings s h

-- nothing in the history concerns the end
abbrev pub IsUntouched : ConnEnd → List Entry → Type 0
IsUntouched end h = Every (IsSilent end) h

-- wherever it stood before, it stands with such an entry more
abbrev pub StandsOn : Receiving → Receiving → (Entry → Type 0) → Type 0
StandsOn old new Is = (settings : Settings) (h : List Entry) (e : Entry) → Is e → Stands settings old h → Stands settings new (h ++ e ∷ [])

-- nothing more is to be taken, in each history for which it stands
abbrev pub TakesNoMore : Receiving → Type 0
TakesNoMore s = (settings : Settings) (h : List Entry) → Stands settings s h → IsEnded s.end.key h

-- more is to be taken, and the next packet isn't there
abbrev pub WaitsForNext : Receiving → Type 0
WaitsForNext s = (settings : Settings) (h : List Entry) → Stands settings s h
    → (IsEnded s.end.key h → ⊥) × ((p : RowPacket) → IsNext s.end.key h p → ⊥)

-- if more is to be taken, the next packet isn't there
abbrev pub NotReady : Receiving → Type 0
NotReady s = (settings : Settings) (h : List Entry) → Stands settings s h → (IsEnded s.end.key h → ⊥) → (p : RowPacket) → IsNext s.end.key h p → ⊥

-- more is to be taken, and this is the next of it
abbrev pub TakesNow : Receiving → Parcel → Datagram → Type 0
TakesNow s p d = (settings : Settings) (h : List Entry) → Stands settings s h → (IsEnded s.end.key h → ⊥) × IsTaken s.end h p (d ∷ [])

-- so many rows were taken, as a count of 64 bits tells it, in each history for which it stands
abbrev pub TellsRows : Receiving → ℕ → Type 0
TellsRows s n = (settings : Settings) (h : List Entry) (rows : List (List Value)) → Stands settings s h → AreTaken s.end.key h rows
    → n ≡ min greatest_count (length rows)
