-- The datagrams that a sending end emits.
use Rattle.std.specs.Prelude.{◌≡◌, ℕ, ◌≤◌, List, length, true, Some, Contains}
use Rattle.ic_base.specs.declared.keys.ConnEnd.{ConnEnd}
use Rattle.ic_base.specs.declared.datagram.Datagram.{Datagram}
use Rattle.ic_header.specs.declared.header.Header.{Header}
use Rattle.ic_header.specs.Spelling.{Heads}
use Rattle.ic_header.specs.Packets.{packet_of, key_of, goes_forth, IsSegment}
use Rattle.ic_sender.specs.Sending.{Sending}

-- A datagram of this end: a header with its body, of the end's connection, to its receiving end, and no longer than
-- packets may be.
pub record IsOutgoingOf (end : ConnEnd) (packet : ℕ) (d : Datagram) : Type 0 where
  pub head : Header
  pub body : List ℕ
  pub spelled : Heads head body d.bytes
  pub reads : packet_of d ≡ Some (record { head = head; body = body })
  pub key : key_of head ≡ end.key
  pub forth : goes_forth head.flags ≡ true
  pub from : d.from ≡ end.key.from
  pub to : d.to ≡ end.key.to
  pub from_is : IsSegment end.key.from
  pub to_is : IsSegment end.key.to
  pub most : length d.bytes ≤ packet

-- all of them are
abbrev pub AreOutgoing : Sending → List Datagram → Type 0
AreOutgoing s ds = (d : Datagram) → Contains ds d → IsOutgoingOf s.end s.settings.packet d
