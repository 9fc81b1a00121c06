-- What datagrams and asks say of connections that they aren't of.
use Rattle.std.proofs.Common.{◌≡◌, Bool, Some, None, Err, ap, sym, ◌∙◌}
use Rattle.std.specs.List.{Contains}
use Rattle.ic_base.specs.declared.keys.ConnKey.{ConnKey}
use Rattle.ic_base.specs.declared.datagram.Datagram.{Datagram}
use Rattle.ic_header.specs.declared.flags.Flags.{Flags}
use Rattle.ic_header.specs.declared.flags.Flags.TheVariants.{Ack, Disorder, Duplicate}
use Rattle.ic_header.specs.declared.fault.HeaderFault.{HeaderFault}
use Rattle.ic_header.specs.Reading.{read_header}
use Rattle.ic_law.specs.declared.history.Entry.{Entry}
use Rattle.ic_header.specs.Packets.{Packet, packet_read, packet_of, key_of, goes_forth}
use Rattle.ic_law.specs.History.{emits}
use Rattle.ic_law.specs.Points.{Emits}
use Rattle.ic_law.proofs.Datagrams.{one_packet}
use Rattle.ic_hub_laws.specs.Entries.{IsPacketOf}

-- what is emitted of a connection is a packet of it
pub emits_of : (c k : ConnKey) (side : Bool) (e : Entry) (f : Flags) (p : Packet) → ((d : Datagram) → Contains (emits e) d → IsPacketOf c side d) → Emits e k f p → (k ≡ c) × (side ≡ goes_forth f)
emits_of c k side e f p each w =
    let is = each w.datagram w.stands in
    let same : is.packet ≡ p = one_packet w.datagram is.packet p is.reads w.reads in
    (sym w.key ∙ ap (λ (x : Packet). key_of x.head) (sym same) ∙ is.key, sym is.way ∙ ap (λ (x : Packet). goes_forth x.head.flags) same ∙ ap goes_forth w.flags_are)

-- the entry tells nothing of the rows of a connection
pub record TellsNone (k : ConnKey) (e : Entry) : Type 0 where
  pub ack : (p : Packet) → Emits e k Ack p → ⊥
  pub duplicate : (p : Packet) → Emits e k Duplicate p → ⊥
  pub disorder : (p : Packet) → Emits e k Disorder p → ⊥

-- what is no packet reads as none
pub unread : (d : Datagram) (p : Packet) (fault : HeaderFault) → read_header d.bytes ≡ Err fault → packet_of d ≡ Some p → ⊥
unfolding packet_of
unread d p fault bad reads = let none : None ≡ Some p = sym (ap packet_read bad) ∙ reads in cc
