-- Which entries of a hub's history are calls of a receiving connection, and which don't concern it.
use Rattle.std.specs.Prelude.{◌≡◌, ℕ, List, [], ◌∷◌, ◌++◌, true, false, Option, Some, None, Ok, Err}
use Rattle.ic_base.specs.declared.keys.ConnKey.{ConnKey}
use Rattle.ic_base.specs.declared.keys.ConnEnd.{ConnEnd}
use Rattle.ic_base.specs.declared.datagram.Datagram.{Datagram}
use Rattle.ic_header.specs.declared.flags.Flags.TheVariants.{Query, Ack, Disorder, Duplicate}
use Rattle.ic_recvring.specs.Ring.{Packet as Kept}
use Rattle.ic_law.specs.declared.history.HubAsk.TheVariants.{TakeFrom, Halt, Arrive}
use Rattle.ic_law.specs.declared.history.HubReply.{HubReply}
use Rattle.ic_law.specs.declared.history.HubReply.TheVariants.{Gave, Took, Came, Memory}
use Rattle.ic_law.specs.declared.history.Arrived.TheVariants.{Dropped}
use Rattle.ic_law.specs.declared.history.DropCause.TheVariants.{Beyond}
use Rattle.ic_law.specs.declared.history.HubNo.{HubNo}
use Rattle.ic_law.specs.declared.history.Entry.{Entry}
use Rattle.ic_header.specs.Packets.{Packet, RowPacket, packet_of, key_of}
use Rattle.ic_law.specs.History.{rows_in}
use Rattle.ic_law.specs.Taking.{takes, halts}
use Rattle.ic_law.specs.Storing.{stores}
use Rattle.ic_law.specs.Points.{Emits, IsDirected, IsHere, StopsAsked}
use Rattle.ic_law.specs.Receiving.{handled}

-- a packet as the law names it
abbrev pub row_of : Kept → RowPacket
row_of p = record { seq = p.seq; payload = p.payload; last = p.last }

-- ---- calls

abbrev pub came_of : Option Datagram → HubReply
came_of (Some d) = handled d
came_of None = Came (Dropped Beyond) []

abbrev pub list_of : Option Datagram → List Datagram
list_of (Some d) = d ∷ []
list_of None = []

-- this packet of rows of c came, and was answered so; without an answer it was dropped
pub record IsHearing (c : ConnKey) (q : Kept) (a : Option Datagram) (e : Entry) : Type 0 where
  pub datagram : Datagram
  pub ask : e.ask ≡ Arrive datagram
  pub reads : rows_in c datagram ≡ row_of q ∷ []
  pub reply : e.reply ≡ came_of a

-- a status query of c with this number came, and was answered so
pub record IsQuerying (c : ConnKey) (seq : ℕ) (a : Option Datagram) (e : Entry) : Type 0 where
  pub datagram : Datagram
  pub packet : Packet
  pub ask : e.ask ≡ Arrive datagram
  pub reads : packet_of datagram ≡ Some packet
  pub key : key_of packet.head ≡ c
  pub flags : packet.head.flags ≡ Query
  pub seq_is : packet.head.seq ≡ seq
  pub reply : e.reply ≡ came_of a

-- a take from c was refused so
pub record IsRefusing (c : ConnKey) (why : HubNo) (e : Entry) : Type 0 where
  pub ask : e.ask ≡ TakeFrom c
  pub reply : e.reply ≡ Took (Err why)

-- c was halted, with this datagram or none
pub record IsHalting (c : ConnKey) (a : Option Datagram) (e : Entry) : Type 0 where
  pub ask : e.ask ≡ Halt c
  pub reply : e.reply ≡ Gave (Ok (list_of a))

-- ---- others

-- An entry that doesn't concern the end: it takes, stores, halts and tells nothing of it, and stops it only for an ended
-- query. If the end is here, what was asked of it found no memory.
pub record IsSilent (end : ConnEnd) (before : List Entry) (e : Entry) : Type 0 where
  pub takes_none : takes end.key e ≡ []
  pub stores_none : stores end.key e ≡ []
  pub halts_none : halts end.key e ≡ false
  pub ack : (p : Packet) → Emits e end.key Ack p → ⊥
  pub duplicate : (p : Packet) → Emits e end.key Duplicate p → ⊥
  pub disorder : (p : Packet) → Emits e end.key Disorder p → ⊥
  pub stop : StopsAsked end.key (before ++ e ∷ []) e
  pub rows : IsHere end before → (d : Datagram) (q : RowPacket) → e.ask ≡ Arrive d → IsDirected true d end.key → rows_in end.key d ≡ q ∷ [] → e.reply ≡ Memory
  pub query : IsHere end before → (d : Datagram) (p : Packet) → e.ask ≡ Arrive d → IsDirected true d end.key → packet_of d ≡ Some p → key_of p.head ≡ end.key → p.head.flags ≡ Query
      → e.reply ≡ Memory
  pub take_from : IsHere end before → e.ask ≡ TakeFrom end.key → e.reply ≡ Memory
  pub halt : IsHere end before → e.ask ≡ Halt end.key → e.reply ≡ Memory
