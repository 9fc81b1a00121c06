-- Worked histories of a sending hub: their asks leave no other.
use Rattle.std.specs.Prelude.{◌≡◌, ℕ, pos, negsuc, List, [], ◌∷◌, ◌++◌, map, replicate, true, false, Ok, Err}
use Rattle.ic_base.specs.declared.keys.ConnEnd.{ConnEnd}
use Rattle.ic_base.specs.declared.settings.Settings.{Settings}
use Rattle.ic_base.specs.declared.settings.Flow.TheVariants.{Capacity}
use Rattle.ic_base.specs.declared.datagram.Datagram.{Datagram}
use Rattle.ic_header.specs.declared.flags.Flags.TheVariants.{Ack, Stop, Disorder}
use Rattle.ic_chunk.specs.declared.chunk.ChunkKind.TheVariants.{Whole}
use Rattle.ic_chunk.specs.Chunks.{chunk_of, spelled, end_of_stream}
use Rattle.ic_law.specs.declared.history.HubAsk.TheVariants.{Begin, Put, Finish, Arrive, Tick}
use Rattle.ic_law.specs.declared.history.HubReply.TheVariants.{Begun, Gave, Came, Ticked}
use Rattle.ic_law.specs.declared.history.HubNo.TheVariants.{Stopped}
use Rattle.ic_law.specs.declared.history.Arrived.TheVariants.{Handled}
use Rattle.ic_law.specs.declared.history.Entry.{Entry}
use Rattle.ic_header.specs.Packets.{RowPacket, row_datagram, query_datagram, answer_datagram}
use Rattle.ic_law.specs.Points.{Place, place_at}
use Rattle.ic_header.specs.Packets.{listing}
use Rattle.ic_unique.specs.Unique.{ask_of, IsRun}

-- a run with these asks has these replies
abbrev pub Forces : Place → List Entry → Type 0
Forces place story = (k : List Entry) → IsRun place k → map ask_of k ≡ map ask_of story → k ≡ story

-- ---- segment 0 of session 7, and two connections that it sends on

-- packets of 128 bytes; a receiver keeps four of them, or one
abbrev pub roomy : Settings
roomy = record { packet = 128; receive_depth = 4; send_depth = 4; retries = 3; flow = Capacity }

abbrev pub tight : Settings
tight = record { packet = 128; receive_depth = 1; send_depth = 4; retries = 3; flow = Capacity }

abbrev pub here : Settings → Place
here settings = place_at 7 (pos 0) settings

-- to the dispatcher, and to segment 1
abbrev pub up : ConnEnd
up = record { key = record { session = 7; query = 1; motion = 1; from = pos 0; to = negsuc 0 }; sending = true; send_slice = 1; recv_slice = 0 }

abbrev pub across : ConnEnd
across = record { key = record { session = 7; query = 1; motion = 1; from = pos 0; to = pos 1 }; sending = true; send_slice = 1; recv_slice = 0 }

-- ---- chunks and packets

-- a row of one text of 49 times this letter: a whole chunk of 60 bytes, which fills a packet
unfoldable pub text : ℕ → List ℕ
text letter = spelled (chunk_of Whole (0 ∷ 1 ∷ 2 ∷ 0 ∷ 0 ∷ 0 ∷ 49 ∷ replicate 49 letter))

abbrev pub rows : ℕ → ℕ → RowPacket
rows seq letter = record { seq = seq; payload = text letter; last = false }

abbrev pub last : ℕ → ℕ → RowPacket
last seq letter = record { seq = seq; payload = text letter ++ spelled end_of_stream; last = true }

-- ---- entries

abbrev pub begin : List ConnEnd → Entry
begin ends = record { ask = Begin 1 ends; reply = Begun (Ok tt) }

abbrev pub put : ConnEnd → ℕ → List Datagram → Entry
put end letter ds = record { ask = Put end.key (text letter); reply = Gave (Ok ds) }

abbrev pub finish : ConnEnd → List Datagram → Entry
finish end ds = record { ask = Finish end.key; reply = Gave (Ok ds) }

abbrev pub come : Datagram → List Datagram → Entry
come d ds = record { ask = Arrive d; reply = Came Handled ds }

abbrev pub tick : List Datagram → Entry
tick ds = record { ask = Tick; reply = Ticked (Ok ds) }

-- ---- stories

-- The packet, or its answer, is lost: after four ticks it goes out again. The answer to it frees it.
abbrev pub resent : List Entry
resent = begin (up ∷ []) ∷ put up 97 [] ∷ finish up (row_datagram up (last 1 97) ∷ [])
    ∷ tick [] ∷ tick [] ∷ tick [] ∷ tick (row_datagram up (last 1 97) ∷ []) ∷ come (answer_datagram up Ack 1 0 []) [] ∷ []

-- Packet 3 came, and 1 and 2 are missing: they go out again at once.
abbrev pub disordered : List Entry
disordered = begin (up ∷ []) ∷ put up 97 [] ∷ put up 98 (row_datagram up (rows 1 97) ∷ []) ∷ put up 99 (row_datagram up (rows 2 98) ∷ [])
    ∷ finish up (row_datagram up (last 3 99) ∷ []) ∷ come (answer_datagram up Disorder 3 3 (listing (1 ∷ 2 ∷ []))) (row_datagram up (rows 1 97) ∷ row_datagram up (rows 2 98) ∷ []) ∷ []

-- The receiver has enough: nothing more is put, and nothing goes out again.
abbrev pub stopped : List Entry
stopped = begin (up ∷ []) ∷ put up 97 [] ∷ put up 98 (row_datagram up (rows 1 97) ∷ []) ∷ come (answer_datagram up Stop 0 0 []) []
    ∷ record { ask = Put up.key (text 99); reply = Gave (Err Stopped) } ∷ tick [] ∷ tick [] ∷ tick [] ∷ tick [] ∷ []

-- Two connections are due at one tick: they are served in the order of their query's list, whichever sent first.
abbrev pub both_due : List Entry
both_due = begin (up ∷ across ∷ []) ∷ put across 98 [] ∷ finish across (row_datagram across (last 1 98) ∷ []) ∷ put up 97 [] ∷ finish up (row_datagram up (last 1 97) ∷ [])
    ∷ tick [] ∷ tick [] ∷ tick [] ∷ tick (row_datagram up (last 1 97) ∷ row_datagram across (last 1 98) ∷ []) ∷ []

-- A packet and the status query of one connection are due at one tick: the packet goes first.
abbrev pub asked : List Entry
asked = begin (up ∷ []) ∷ put up 97 [] ∷ put up 98 (row_datagram up (rows 1 97) ∷ []) ∷ finish up []
    ∷ come (answer_datagram up Ack 1 0 []) [] ∷ come (answer_datagram up Ack 1 1 []) (row_datagram up (last 2 98) ∷ [])
    ∷ tick [] ∷ tick (row_datagram up (last 2 98) ∷ query_datagram up 2 ∷ []) ∷ []
