-- Packets: how the bytes of a datagram are read, and the datagrams that the ends of a connection make.
use Rattle.std.specs.Prelude.{◌≡◌, ℕ, ◌+◌, ℤ, pos, negsuc, ◌≤ℤ◌, List, [], ◌++◌, length, Bool, true, false, Option, Some, None, Result, Ok, Err}
use Rattle.ic_base.specs.declared.keys.ConnKey.{ConnKey}
use Rattle.ic_base.specs.declared.keys.ConnEnd.{ConnEnd}
use Rattle.ic_base.specs.declared.datagram.Datagram.{Datagram}
use Rattle.ic_header.specs.declared.header.Header.{Header}
use Rattle.ic_header.specs.declared.fault.HeaderFault.{HeaderFault}
use Rattle.ic_header.specs.declared.flags.Flags.{Flags}
use Rattle.ic_header.specs.declared.flags.Flags.TheVariants.{Rows, LastRows, Query, Ack, Stop, Nak, Disorder, Duplicate}
use Rattle.std.specs.Int.{w32, to_be_bytes}
use Rattle.std.specs.List.{flat_map}
use Rattle.ic_header.specs.Spelling.{written, Heads}
use Rattle.ic_header.specs.Reading.{read_header}

-- ---- reading

-- a header and the body after it
pub record Packet : Type 0 where
  pub head : Header
  pub body : List ℕ

abbrev pub packet_read : Result (Header × List ℕ) HeaderFault → Option Packet
packet_read (Ok r) = Some (record { head = r.0; body = r.1 })
packet_read (Err fault) = None

-- the packet in a datagram's bytes, if they are one
unfoldable pub packet_of : Datagram → Option Packet
packet_of d = packet_read (read_header d.bytes)

-- the connection that a header names, whichever way the packet goes
abbrev pub key_of : Header → ConnKey
key_of h = record { session = h.session; query = h.query; motion = h.motion; from = h.src_content; to = h.dst_content }

-- a packet of rows
abbrev pub is_rows : Flags → Bool
is_rows Rows = true
is_rows LastRows = true
is_rows Query = false
is_rows Ack = false
is_rows Stop = false
is_rows Nak = false
is_rows Disorder = false
is_rows Duplicate = false

-- the last packet of rows of its stream
abbrev pub is_last : Flags → Bool
is_last Rows = false
is_last LastRows = true
is_last Query = false
is_last Ack = false
is_last Stop = false
is_last Nak = false
is_last Disorder = false
is_last Duplicate = false

-- a packet from the sending end to the receiving end; all others are answers
abbrev pub goes_forth : Flags → Bool
goes_forth Rows = true
goes_forth LastRows = true
goes_forth Query = true
goes_forth Ack = false
goes_forth Stop = false
goes_forth Nak = false
goes_forth Disorder = false
goes_forth Duplicate = false

-- the number is a segment's
abbrev pub IsSegment : ℤ → Type 0
IsSegment n = (negsuc 0 ≤ℤ n) × (n ≤ℤ pos 63)

-- ---- making

-- the header of a packet of this end's connection: both pids and ports are 0, and len counts the header's 64 bytes too
abbrev pub header_for : ConnEnd → Flags → ℕ → ℕ → ℕ → Header
header_for end flags size seq extra =
    record {
      motion = end.key.motion;
      src_pid = 0;
      src_port = 0;
      dst_pid = 0;
      dst_port = 0;
      session = end.key.session;
      query = end.key.query;
      recv_slice = end.recv_slice;
      send_slice = end.send_slice;
      src_content = end.key.from;
      dst_content = end.key.to;
      flags = flags;
      len = 64 + size;
      seq = seq;
      extra = extra;
    }

abbrev pub rows_flags : Bool → Flags
rows_flags true = LastRows
rows_flags false = Rows

-- a packet of rows: its number, its payload, and whether the stream ends with it
pub record RowPacket : Type 0 where
  pub seq : ℕ
  pub payload : List ℕ
  pub last : Bool

-- its datagram
abbrev pub row_datagram : ConnEnd → RowPacket → Datagram
row_datagram end p =
    record { from = end.key.from; to = end.key.to; bytes = written (header_for end (rows_flags p.last) (length p.payload) p.seq 0) ++ p.payload }

-- a status query of a sending end after the packet of this number
abbrev pub query_datagram : ConnEnd → ℕ → Datagram
query_datagram end seq = record { from = end.key.from; to = end.key.to; bytes = written (header_for end Query 0 seq 0) }

-- an answer of a receiving end
abbrev pub answer_datagram : ConnEnd → Flags → ℕ → ℕ → List ℕ → Datagram
answer_datagram end flags seq extra body =
    record { from = end.key.to; to = end.key.from; bytes = written (header_for end flags (length body) seq extra) ++ body }

-- the body of an answer that lists numbers, four bytes each
abbrev pub listing : List ℕ → List ℕ
listing numbers = flat_map (to_be_bytes w32) numbers

-- the datagram is this answer of this end, and its bytes are the header and the body
pub record IsAnswer (end : ConnEnd) (flags : Flags) (seq extra : ℕ) (body : List ℕ) (d : Datagram) : Type 0 where
  pub is : d ≡ answer_datagram end flags seq extra body
  pub spelled : Heads (header_for end flags (length body) seq extra) body d.bytes

-- The header of the answer to a packet of an unknown connection. It repeats the packet's key, slice numbers and number.
abbrev pub turned_header : Header → Flags → Header
turned_header head flags =
    record {
      motion = head.motion;
      src_pid = 0;
      src_port = 0;
      dst_pid = 0;
      dst_port = 0;
      session = head.session;
      query = head.query;
      recv_slice = head.recv_slice;
      send_slice = head.send_slice;
      src_content = head.src_content;
      dst_content = head.dst_content;
      flags = flags;
      len = 64;
      seq = head.seq;
      extra = 0;
    }

-- the datagram is such an answer from one segment to another, and its bytes are the header
pub record IsTurned (from to : ℤ) (head : Header) (flags : Flags) (d : Datagram) : Type 0 where
  pub is : d ≡ record { from = from; to = to; bytes = written (turned_header head flags) }
  pub spelled : Heads (turned_header head flags) [] (written (turned_header head flags))
