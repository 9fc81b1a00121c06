-- A receiving connection, and what each call does to it.
use Rattle.std.specs.Prelude.{◌≡◌, ℕ, ◌+◌, ◌<◌, ◌≤◌, ◌⊎◌, List, [], ◌∷◌, ◌++◌, length, Bool, true, false, Option, Some, None}
use Rattle.ic_base.specs.declared.keys.ConnEnd.{ConnEnd}
use Rattle.ic_base.specs.declared.settings.Settings.{Settings}
use Rattle.ic_base.specs.declared.datagram.Datagram.{Datagram}
use Rattle.ic_base.specs.declared.datagram.Parcel.{Parcel}
use Rattle.ic_header.specs.declared.flags.Flags.{Flags}
use Rattle.ic_header.specs.declared.flags.Flags.TheVariants.{Ack, Stop, Disorder, Duplicate}
use Rattle.ic_header.specs.Spelling.{Heads}
use Rattle.ic_recvring.specs.Numbers.{IsRunEnd, IsGreatest, missing}
use Rattle.ic_recvring.specs.Ring.{Ring, Packet, stored_of, empty, placed, front_of, after_front, IsRepeated, IsNew, IsBeyond, HasRoom}
use Rattle.ic_chunk.specs.Counts.{HasCounted}
use Rattle.ic_header.specs.Packets.{IsAnswer, header_for, answer_datagram}
use Rattle.ic_header.specs.Packets.{listing}

-- An end with the ring of what came, which a halt drops; whole once the packet with the end of stream was taken; and how
-- many rows ended in the payloads that were taken.
pub record Receiving : Type 0 where
  pub end : ConnEnd
  pub ring : Option Ring
  pub whole : Bool
  pub rows : ℕ

-- a ring of at most 256 packets, if there is one
abbrev pub IsShort : Option Ring → Type 0
IsShort (Some ring) = ring.depth ≤ 256
IsShort None = Unit {0}

-- as it begins
abbrev pub begun : ConnEnd → Settings → Receiving
begun end settings = record { end = end; ring = Some (empty settings.receive_depth settings.packet); whole = false; rows = 0 }

-- ---- a packet of rows comes

-- the ring with one packet more
abbrev pub storing : Ring → Packet → Ring
storing s q = record s { kept = placed q s.kept }

-- What a packet that is stored is answered, with the ring as it is then, if the run had ended at r. The run's next:
-- Ack with the new end and the number consumed. After a gap: Disorder with the greatest number stored and those that
-- are missing below it.
pub data TellsStored (end : ConnEnd) (now : Ring) (r seq : ℕ) (d : Datagram) : Type 0 where
  Next : (run : ℕ) → seq ≡ r + 1 → IsRunEnd (stored_of now) run → IsAnswer end Ack run now.consumed [] d → TellsStored end now r seq d
  Gap : (g : ℕ) → r + 1 < seq → IsGreatest (stored_of now) g → IsAnswer end Disorder seq g (listing (missing (stored_of now) r g)) d → TellsStored end now r seq d

-- What is done with a packet if the end isn't halted. In the run or kept: Duplicate with the run's end. Past the
-- room, or too long: no answer. Else it is stored.
pub data HearsRows (end : ConnEnd) (s : Ring) (q : Packet) (a : Option Datagram) (after : Ring) : Type 0 where
  Again : (d : Datagram) (r : ℕ) → IsRunEnd (stored_of s) r → IsRepeated s r q.seq → IsAnswer end Duplicate q.seq r [] d
      → a ≡ Some d → after ≡ s → HearsRows end s q a after
  Far : (r : ℕ) → IsRunEnd (stored_of s) r → IsNew s r q.seq → IsBeyond s q
      → a ≡ None → after ≡ s → HearsRows end s q a after
  Kept : (d : Datagram) (r : ℕ) → IsRunEnd (stored_of s) r → IsNew s r q.seq → HasRoom s q → TellsStored end (storing s q) r q.seq d
      → a ≡ Some d → after ≡ storing s q → HearsRows end s q a after

-- once halted, Stop with its number
pub data Hears (s : Receiving) (q : Packet) (a : Option Datagram) (after : Receiving) : Type 0 where
  Stopped : (d : Datagram) → s.ring ≡ None → IsAnswer s.end Stop q.seq 0 [] d → a ≡ Some d → after ≡ s → Hears s q a after
  Running : (ring now : Ring) → s.ring ≡ Some ring → HearsRows s.end ring q a now → after ≡ record s { ring = Some now } → Hears s q a after

-- ---- a status query comes

-- halted: Stop with its number; else Ack with the run's end and the number consumed
pub data HearsQuery (s : Receiving) (seq : ℕ) (a : Option Datagram) : Type 0 where
  QueryStopped : (d : Datagram) → s.ring ≡ None → IsAnswer s.end Stop seq 0 [] d → a ≡ Some d → HearsQuery s seq a
  QueryTold : (d : Datagram) (ring : Ring) (r : ℕ) → s.ring ≡ Some ring → IsRunEnd (stored_of ring) r
      → IsAnswer s.end Ack r ring.consumed [] d → a ≡ Some d → HearsQuery s seq a

-- ---- taking

-- whole or halted
abbrev pub IsOver : Receiving → Type 0
IsOver s = (s.whole ≡ true) ⊎ (s.ring ≡ None)

-- neither, and the next packet isn't there
pub record IsEmpty (s : Receiving) : Type 0 where
  pub goes_on : s.whole ≡ false
  pub ring : Ring
  pub runs : s.ring ≡ Some ring
  pub front : front_of ring ≡ None

-- neither, and the next packet is there
pub record IsReady (s : Receiving) : Type 0 where
  pub goes_on : s.whole ≡ false
  pub ring : Ring
  pub runs : s.ring ≡ Some ring
  pub packet : Packet
  pub front : front_of ring ≡ Some packet

-- the front goes, as a parcel, and Ack has the run's end and the number consumed with it
pub record HandsFront (end : ConnEnd) (s : Ring) (p : Parcel) (d : Datagram) (after : Ring) : Type 0 where
  pub packet : Packet
  pub front : front_of s ≡ Some packet
  pub from : p.from ≡ end.key.from
  pub payload : p.payload ≡ packet.payload
  pub last : p.last ≡ packet.last
  pub run : ℕ
  pub run_end : IsRunEnd (stored_of s) run
  pub answer : IsAnswer end Ack run (s.consumed + 1) [] d
  pub after_is : after ≡ after_front s
  pub stored : stored_of after ≡ stored_of s

-- if it is neither whole nor halted; the rows that end in the payload are counted
pub record HandsOver (s : Receiving) (p : Parcel) (d : Datagram) (after : Receiving) : Type 0 where
  pub goes_on : s.whole ≡ false
  pub ring : Ring
  pub runs : s.ring ≡ Some ring
  pub now : Ring
  pub hands : HandsFront s.end ring p d now
  pub rows : ℕ
  pub counted : (payloads : List (List ℕ)) → HasCounted payloads s.rows → HasCounted (payloads ++ p.payload ∷ []) rows
  pub after_is : after ≡ record s { ring = Some now; whole = p.last; rows = rows }

-- ---- halting

-- nothing if it is whole or halted; else what is kept is dropped, and Stop says so
pub data Halts (s : Receiving) (a : Option Datagram) (after : Receiving) : Type 0 where
  HaltsAgain : IsOver s → a ≡ None → after ≡ s → Halts s a after
  HaltsNow : (d : Datagram) (ring : Ring) → s.whole ≡ false → s.ring ≡ Some ring → IsAnswer s.end Stop 0 0 [] d
      → a ≡ Some d → after ≡ record s { ring = None } → Halts s a after
