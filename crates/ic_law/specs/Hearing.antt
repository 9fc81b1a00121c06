-- Which answers a sending end heard, and what they told.
use Rattle.std.specs.Prelude.{◌≡◌, ℕ, ◌-◌, List, [], ◌∷◌, map, take, Bool, true, false, if◌then◌else◌, Option, Some, None}
use Rattle.std.specs.Int.{w32, from_be_bytes}
use Rattle.std.specs.List.{flat_map, list_any}
use Rattle.ic_base.specs.declared.keys.ConnKey.{ConnKey}
use Rattle.ic_base.specs.declared.datagram.Datagram.{Datagram}
use Rattle.ic_base.specs.Keys.{key_eq}
use Rattle.ic_header.specs.declared.flags.Flags.{Flags}
use Rattle.ic_header.specs.declared.flags.Flags.TheVariants.{Rows, LastRows, Query, Ack, Stop, Nak, Disorder, Duplicate}
use Rattle.ic_law.specs.declared.history.HubAsk.{HubAsk}
use Rattle.ic_law.specs.declared.history.HubAsk.TheVariants.{Begin, Put, Finish, Take, TakeFrom, Halt, Arrive, Tick, Clear, Leave}
use Rattle.ic_law.specs.declared.history.HubReply.{HubReply}
use Rattle.ic_law.specs.declared.history.HubReply.TheVariants.{Begun, Gave, Took, Came, Ticked, Cleared, Left, Memory}
use Rattle.ic_law.specs.declared.history.Arrived.TheVariants.{Handled, Dropped}
use Rattle.ic_law.specs.declared.history.Entry.{Entry}
use Rattle.ic_header.specs.Packets.{Packet, packet_of, key_of, goes_forth}
use Rattle.ic_law.specs.History.{greatest}

abbrev pub was_handled : HubReply → Bool
was_handled (Begun r) = false
was_handled (Gave r) = false
was_handled (Took r) = false
was_handled (Came Handled ds) = true
was_handled (Came (Dropped cause) ds) = false
was_handled (Ticked r) = false
was_handled (Cleared r) = false
was_handled (Left r) = false
was_handled Memory = false

abbrev pub answer_read : ConnKey → Option Packet → List Packet
answer_read c None = []
answer_read c (Some p) = if goes_forth p.head.flags then [] else (if key_eq (key_of p.head) c then p ∷ [] else [])

-- the packet in a datagram, if it is an answer of c
abbrev pub answer_in : ConnKey → Datagram → List Packet
answer_in c d = answer_read c (packet_of d)

abbrev pub heard_by : ConnKey → HubAsk → HubReply → List Packet
heard_by c (Begin query ends) reply = []
heard_by c (Put key chunk) reply = []
heard_by c (Finish key) reply = []
heard_by c (Take query motion) reply = []
heard_by c (TakeFrom key) reply = []
heard_by c (Halt key) reply = []
heard_by c (Arrive d) reply = if was_handled reply then answer_in c d else []
heard_by c Tick reply = []
heard_by c (Clear query) reply = []
heard_by c (Leave query) reply = []

abbrev pub hears : ConnKey → Entry → List Packet
hears c e = heard_by c e.ask e.reply

-- the answers of c that were handled, in order
abbrev pub heard_of : ConnKey → List Entry → List Packet
heard_of c h = flat_map (hears c) h

-- the first number that a Disorder lists
abbrev pub first_listed : Packet → ℕ
first_listed p = from_be_bytes w32 (take 4 p.body)

abbrev pub run_by : Flags → Packet → ℕ
run_by Rows p = 0
run_by LastRows p = 0
run_by Query p = 0
run_by Ack p = p.head.seq
run_by Stop p = 0
run_by Nak p = 0
run_by Disorder p = first_listed p - 1
run_by Duplicate p = p.head.extra

-- the run end that an answer tells, or 0 if it tells none
abbrev pub run_told : Packet → ℕ
run_told p = run_by p.head.flags p

abbrev pub consumed_by : Flags → Packet → ℕ
consumed_by Rows p = 0
consumed_by LastRows p = 0
consumed_by Query p = 0
consumed_by Ack p = p.head.extra
consumed_by Stop p = 0
consumed_by Nak p = 0
consumed_by Disorder p = 0
consumed_by Duplicate p = 0

-- the consumed number that an answer tells, or 0 if it tells none
abbrev pub consumed_told : Packet → ℕ
consumed_told p = consumed_by p.head.flags p

-- the greatest run end that was heard
abbrev pub run_heard : ConnKey → List Entry → ℕ
run_heard c h = greatest (map run_told (heard_of c h))

-- the greatest consumed number that was heard
abbrev pub consumed_heard : ConnKey → List Entry → ℕ
consumed_heard c h = greatest (map consumed_told (heard_of c h))

abbrev pub stop_flags : Flags → Bool
stop_flags Rows = false
stop_flags LastRows = false
stop_flags Query = false
stop_flags Ack = false
stop_flags Stop = true
stop_flags Nak = false
stop_flags Disorder = false
stop_flags Duplicate = false

abbrev pub is_stop : Packet → Bool
is_stop p = stop_flags p.head.flags

abbrev pub stopped_of : ConnKey → List Entry → Bool
stopped_of c h = list_any is_stop (heard_of c h)

-- a Stop for c was handled
abbrev pub IsStopped : ConnKey → List Entry → Type 0
IsStopped c h = stopped_of c h ≡ true
