-- Lists of entries, the datagrams that come and go with them, and the packets of rows among these. Each is read from
-- one entry, and joined over all entries.
use Rattle.std.specs.Prelude.{ℕ, max, List, [], ◌∷◌, ◌++◌, map, ◌&&◌, if◌then◌else◌, Option, Some, None, Ok, Err, slice_get, slice_set}
use Rattle.std.specs.List.{flat_map}
use Rattle.ic_base.specs.declared.keys.ConnKey.{ConnKey}
use Rattle.ic_base.specs.declared.datagram.Datagram.{Datagram}
use Rattle.ic_base.specs.Keys.{key_eq}
use Rattle.ic_law.specs.declared.history.HubAsk.{HubAsk}
use Rattle.ic_law.specs.declared.history.HubAsk.TheVariants.{Begin, Put, Finish, Take, TakeFrom, Halt, Arrive, Tick, Clear, Leave}
use Rattle.ic_law.specs.declared.history.HubReply.{HubReply}
use Rattle.ic_law.specs.declared.history.HubReply.TheVariants.{Begun, Gave, Took, Came, Ticked, Cleared, Left, Memory}
use Rattle.ic_law.specs.declared.history.Entry.{Entry}
use Rattle.ic_header.specs.Packets.{Packet, RowPacket, packet_of, key_of, is_rows, is_last}

-- ---- lists of entries

abbrev pub with_entry : List (List Entry) → ℕ → Entry → Option (List Entry) → List (List Entry)
with_entry nodes node entry None = nodes
with_entry nodes node entry (Some history) = slice_set nodes node (history ++ entry ∷ [])

-- the histories with one more entry at this node
abbrev pub noted : List (List Entry) → ℕ → Entry → List (List Entry)
noted nodes node entry = with_entry nodes node entry (slice_get nodes node)

-- ---- datagrams

abbrev pub datagrams_of : HubReply → List Datagram
datagrams_of (Begun r) = []
datagrams_of (Gave (Ok ds)) = ds
datagrams_of (Gave (Err refusal)) = []
datagrams_of (Took (Ok r)) = r.1
datagrams_of (Took (Err refusal)) = []
datagrams_of (Came how ds) = ds
datagrams_of (Ticked (Ok ds)) = ds
datagrams_of (Ticked (Err refusal)) = []
datagrams_of (Cleared r) = []
datagrams_of (Left r) = []
datagrams_of Memory = []

abbrev pub datagram_in : HubAsk → List Datagram
datagram_in (Begin query ends) = []
datagram_in (Put key chunk) = []
datagram_in (Finish key) = []
datagram_in (Take query motion) = []
datagram_in (TakeFrom key) = []
datagram_in (Halt key) = []
datagram_in (Arrive d) = d ∷ []
datagram_in Tick = []
datagram_in (Clear query) = []
datagram_in (Leave query) = []

abbrev pub emits : Entry → List Datagram
emits e = datagrams_of e.reply

abbrev pub arrives : Entry → List Datagram
arrives e = datagram_in e.ask

-- the datagrams that a hub emitted
abbrev pub emitted_of : List Entry → List Datagram
emitted_of h = flat_map emits h

-- the datagrams that came to a hub
abbrev pub arrived_of : List Entry → List Datagram
arrived_of h = flat_map arrives h

-- ---- packets of rows

abbrev pub rows_read : ConnKey → Option Packet → List RowPacket
rows_read c None = []
rows_read c (Some p) =
    if is_rows p.head.flags && key_eq (key_of p.head) c then record { seq = p.head.seq; payload = p.body; last = is_last p.head.flags } ∷ [] else []

-- the packet of rows in a datagram, if it is one of c
abbrev pub rows_in : ConnKey → Datagram → List RowPacket
rows_in c d = rows_read c (packet_of d)

abbrev pub rows_emitted_of : ConnKey → List Entry → List RowPacket
rows_emitted_of c h = flat_map (rows_in c) (emitted_of h)

abbrev pub rows_arrived_of : ConnKey → List Entry → List RowPacket
rows_arrived_of c h = flat_map (rows_in c) (arrived_of h)

abbrev pub number_of : RowPacket → ℕ
number_of p = p.seq

-- the greatest number, or 0 if there is none
abbrev pub greatest : List ℕ → ℕ
greatest [] = 0
greatest (n ∷ ns) = max n (greatest ns)

-- the greatest number that was emitted on c
abbrev pub sent_upto : ConnKey → List Entry → ℕ
sent_upto c h = greatest (map number_of (rows_emitted_of c h))
