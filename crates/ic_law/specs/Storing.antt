-- Which packets of rows a receiving end stored.
use Rattle.std.specs.Prelude.{ℕ, List, [], map, Bool, true, false, if◌then◌else◌, Option, Some, None}
use Rattle.std.specs.List.{flat_map, list_any}
use Rattle.ic_base.specs.declared.keys.ConnKey.{ConnKey}
use Rattle.ic_base.specs.declared.datagram.Datagram.{Datagram}
use Rattle.ic_header.specs.declared.flags.Flags.{Flags}
use Rattle.ic_header.specs.declared.flags.Flags.TheVariants.{Rows, LastRows, Query, Ack, Stop, Nak, Disorder, Duplicate}
use Rattle.ic_law.specs.declared.history.HubAsk.{HubAsk}
use Rattle.ic_law.specs.declared.history.HubAsk.TheVariants.{Begin, Put, Finish, Take, TakeFrom, Halt, Arrive, Tick, Clear, Leave}
use Rattle.ic_law.specs.declared.history.HubReply.{HubReply}
use Rattle.ic_law.specs.declared.history.Entry.{Entry}
use Rattle.ic_header.specs.Packets.{Packet, RowPacket, packet_of}
use Rattle.ic_law.specs.History.{datagrams_of, rows_in, number_of}

-- whether the answer tells that a packet was stored
abbrev pub tells_stored : Flags → Bool
tells_stored Rows = false
tells_stored LastRows = false
tells_stored Query = false
tells_stored Ack = true
tells_stored Stop = false
tells_stored Nak = false
tells_stored Disorder = true
tells_stored Duplicate = false

abbrev pub packet_tells_stored : Option Packet → Bool
packet_tells_stored None = false
packet_tells_stored (Some p) = tells_stored p.head.flags

abbrev pub datagram_tells_stored : Datagram → Bool
datagram_tells_stored d = packet_tells_stored (packet_of d)

abbrev pub stored_by : ConnKey → HubAsk → HubReply → List RowPacket
stored_by c (Begin query ends) reply = []
stored_by c (Put key chunk) reply = []
stored_by c (Finish key) reply = []
stored_by c (Take query motion) reply = []
stored_by c (TakeFrom key) reply = []
stored_by c (Halt key) reply = []
stored_by c (Arrive d) reply = if list_any datagram_tells_stored (datagrams_of reply) then rows_in c d else []
stored_by c Tick reply = []
stored_by c (Clear query) reply = []
stored_by c (Leave query) reply = []

abbrev pub stores : ConnKey → Entry → List RowPacket
stores c e = stored_by c e.ask e.reply

-- the packets of rows of c whose arrival was answered by an Ack or a Disorder
abbrev pub stored_of : ConnKey → List Entry → List RowPacket
stored_of c h = flat_map (stores c) h

abbrev pub stored_numbers_of : ConnKey → List Entry → List ℕ
stored_numbers_of c h = map number_of (stored_of c h)
