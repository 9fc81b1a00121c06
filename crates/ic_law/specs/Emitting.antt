-- Which packets of rows and status queries a sending end emits with an entry.
use Rattle.std.specs.Prelude.{ℕ, List, [], ◌∷◌, ◌++◌, Bool, true, false, ◌&&◌, ◌==◌, if◌then◌else◌, Option, Some, None, nat_le}
use Rattle.ic_base.specs.declared.keys.ConnKey.{ConnKey}
use Rattle.ic_base.specs.declared.datagram.Datagram.{Datagram}
use Rattle.ic_base.specs.Keys.{key_eq}
use Rattle.ic_header.specs.declared.flags.Flags.{Flags}
use Rattle.ic_header.specs.declared.flags.Flags.TheVariants.{Rows, LastRows, Query, Ack, Stop, Nak, Disorder, Duplicate}
use Rattle.ic_law.specs.declared.history.Entry.{Entry}
use Rattle.ic_base.specs.declared.settings.Settings.{Settings}
use Rattle.ic_header.specs.Packets.{Packet, RowPacket, packet_of, key_of}
use Rattle.ic_law.specs.History.{sent_upto}
use Rattle.ic_law.specs.Hearing.{hears, stopped_of}
use Rattle.ic_law.specs.Filling.{sealed_of}
use Rattle.ic_law.specs.Clock.{ticks_by, clock_of}
use Rattle.ic_law.specs.Timers.{Asked, Timing, listed_of, due_numbers}
use Rattle.ic_law.specs.Timing.{fresh_count, rows_at, numbers_behind, moved, timing_of}

abbrev pub listed_then : ConnKey → List Entry → Timing → List Packet → List ℕ
listed_then c now t [] = []
listed_then c now t (p ∷ ps) = listed_of c now t p

-- the packets that an entry resends: those that a Disorder lists, or at a tick those that are due
abbrev pub again_numbers : ConnKey → List Entry → Entry → Timing → List ℕ
again_numbers c before e t =
    if ticks_by e.reply == 0 then listed_then c (before ++ e ∷ []) t (hears c e) else due_numbers (clock_of (before ++ e ∷ [])) t.timers

-- these, and then the packets that it emits for the first time
abbrev pub emitted_numbers : ConnKey → Settings → List Entry → Entry → Timing → List ℕ
emitted_numbers c settings before e t =
    again_numbers c before e t ++ numbers_behind (sent_upto c before) (fresh_count c settings before (before ++ e ∷ []) (moved c before e t).window)

-- the packets of rows that an entry emits: none on a stopped connection
abbrev pub rows_then : ConnKey → Settings → List Entry → Entry → List RowPacket
rows_then c settings before e =
    if stopped_of c (before ++ e ∷ []) then [] else
    rows_at (sealed_of c settings (before ++ e ∷ [])) (emitted_numbers c settings before e (timing_of c settings before))

abbrev pub query_due : ℕ → Option Asked → Bool
query_due clock None = false
query_due clock (Some a) = nat_le a.due clock

-- the status query that an entry emits, if it is a tick and the query is due; its number is the greatest number emitted
abbrev pub queries_then : ConnKey → Settings → List Entry → Entry → List ℕ
queries_then c settings before e =
    if ticks_by e.reply == 0 then [] else
    (if query_due (clock_of (before ++ e ∷ [])) (timing_of c settings before).asked then sent_upto c before ∷ [] else [])

abbrev pub is_query : Flags → Bool
is_query Rows = false
is_query LastRows = false
is_query Query = true
is_query Ack = false
is_query Stop = false
is_query Nak = false
is_query Disorder = false
is_query Duplicate = false

abbrev pub queries_read : ConnKey → Option Packet → List ℕ
queries_read c None = []
queries_read c (Some p) = if is_query p.head.flags && key_eq (key_of p.head) c then p.head.seq ∷ [] else []

-- the number in the datagram, if it is a status query of c
abbrev pub queries_in : ConnKey → Datagram → List ℕ
queries_in c d = queries_read c (packet_of d)
