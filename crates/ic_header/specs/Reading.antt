-- A datagram read from the front, with the first fault.
use Rattle.std.specs.Prelude.{ℕ, ◌-◌, ◌*◌, ◌%◌, ℤ, List, length, take, drop, Bool, not, ◌&&◌, ◌==◌, nat_lt, nat_le, if◌then◌else◌, Option, Some, None, Result, Ok, Err}
use Rattle.std.specs.Int.{w32, from_be_bytes, cast_signed}
use Rattle.std.specs.Borrow.{Bor}
use Rattle.ic_header.specs.declared.header.Header.{Header}
use Rattle.ic_header.specs.declared.fault.HeaderFault.{HeaderFault}
use Rattle.ic_header.specs.declared.fault.HeaderFault.TheVariants as fault
use Rattle.ic_header.specs.declared.flags.Flags.{Flags}
use Rattle.ic_header.specs.declared.flags.Flags.TheVariants.{Rows, LastRows, Query, Ack, Stop, Nak, Disorder, Duplicate}

-- the word at this position, from 0: four bytes, most significant first
unfoldable pub word_at : List ℕ → ℕ → ℕ
word_at bytes place = from_be_bytes w32 (take 4 (drop (4 * place) bytes))

-- the content id at this position
unfoldable pub content_at : List ℕ → ℕ → ℤ
content_at bytes place = cast_signed w32 (word_at bytes place)

-- the kind of this word, if it is one of the eight
unfoldable pub flags_of : ℕ → Option Flags
flags_of n =
    if n == 0 then Some Rows else
    (if n == 8 then Some LastRows else
    (if n == 128 then Some Query else
    (if n == 3 then Some Ack else
    (if n == 5 then Some Stop else
    (if n == 17 then Some Nak else
    (if n == 33 then Some Disorder else
    (if n == 65 then Some Duplicate else None)))))))

-- whether the kind may have a body of n bytes
abbrev pub allows_body : Flags → ℕ → Bool
allows_body Rows n = nat_le 4 n
allows_body LastRows n = nat_le 4 n
allows_body Query n = n == 0
allows_body Ack n = n == 0
allows_body Stop n = n == 0
allows_body Nak n = n == 0
allows_body Disorder n = not (n == 0) && (n % 4 == 0)
allows_body Duplicate n = n == 0

-- the header with these words, without the crc
unfoldable pub header_at : List ℕ → Flags → Header
header_at bytes flags = record {
  motion = word_at bytes 0;
  src_pid = word_at bytes 1;
  src_port = word_at bytes 2;
  dst_pid = word_at bytes 3;
  dst_port = word_at bytes 4;
  session = word_at bytes 5;
  query = word_at bytes 6;
  recv_slice = word_at bytes 7;
  send_slice = word_at bytes 8;
  src_content = content_at bytes 9;
  dst_content = content_at bytes 10;
  flags = flags;
  len = word_at bytes 13;
  seq = word_at bytes 14;
  extra = word_at bytes 15;
}

-- whether the length in the header is that of the bytes, and the kind allows the body after the first 64
unfoldable pub len_fits : List ℕ → Flags → Bool
len_fits bytes flags = (word_at bytes 13 == length bytes) && allows_body flags (length bytes - 64)

-- the rest of reading, once the kind is known
abbrev pub read_with : List ℕ → Option Flags → Result (Header × List ℕ) HeaderFault
read_with bytes None = Err fault.Flags
read_with bytes (Some flags) =
    if len_fits bytes flags then Ok (header_at bytes flags, drop 64 bytes) else Err fault.Len

-- the header and the body of a datagram
unfoldable pub read_header : List ℕ → Result (Header × List ℕ) HeaderFault
read_header bytes =
    if nat_lt (length bytes) 64 then Err fault.Short else
    (if word_at bytes 11 == 0 then read_with bytes (flags_of (word_at bytes 12)) else Err fault.Crc)

-- the returned header and body, as plain lists
abbrev pub seen : Result (Header × Bor (List ℕ)) HeaderFault → Result (Header × List ℕ) HeaderFault
seen (Ok r) = Ok (r.0, r.1.now)
seen (Err e) = Err e
