-- What a hub emits, takes and tells: points of one connection and one entry, given the entries before it.
use Rattle.std.specs.Prelude.{◌≡◌, ℕ, ◌+◌, ◌-◌, ◌<◌, ◌≤◌, ◌⊎◌, ℤ, List, [], ◌∷◌, ◌++◌, length, map, Bool, true, false, Option, Some, None, Contains, slice_get}
use Rattle.std.specs.Int.{w32, to_be_bytes}
use Rattle.ic_base.specs.declared.keys.ConnKey.{ConnKey}
use Rattle.ic_base.specs.declared.keys.ConnEnd.{ConnEnd}
use Rattle.ic_base.specs.declared.settings.Settings.{Settings}
use Rattle.ic_base.specs.declared.datagram.Datagram.{Datagram}
use Rattle.ic_base.specs.declared.datagram.Parcel.{Parcel}
use Rattle.ic_header.specs.declared.flags.Flags.{Flags}
use Rattle.ic_header.specs.declared.flags.Flags.TheVariants.{Ack, Stop, Disorder, Duplicate}
use Rattle.ic_header.specs.Spelling.{Heads}
use Rattle.ic_chunk.specs.Assembly.{together}
use Rattle.ic_law.specs.declared.history.HubAsk.TheVariants.{Begin}
use Rattle.ic_law.specs.declared.history.HubReply.{HubReply}
use Rattle.ic_law.specs.declared.history.Entry.{Entry}
use Rattle.ic_header.specs.Packets.{Packet, RowPacket, packet_of, key_of, goes_forth, IsSegment}
use Rattle.ic_law.specs.History.{emits, emitted_of, rows_in, rows_emitted_of, rows_arrived_of}
use Rattle.ic_law.specs.Putting.{chunks_put_of, IsFinished}
use Rattle.ic_law.specs.Taking.{parcels_of, takes, IsWhole, IsHalted, IsHaltAsked}
use Rattle.ic_law.specs.Hearing.{run_heard, IsStopped}
use Rattle.ic_law.specs.Queries.{left_of, was_begun}
use Rattle.ic_law.specs.Filling.{Sealed, plain, final}

-- where a hub is: its session, its segment and its settings
pub record Place : Type 0 where
  pub session : ℕ
  pub at : ℤ
  pub settings : Settings

abbrev pub place_at : ℕ → ℤ → Settings → Place
place_at session at settings = record { session = session; at = at; settings = settings }

-- each entry has this point, given the entries before it
abbrev pub Every : (List Entry → Entry → Type 0) → List Entry → Type 0
Every P h = (before : List Entry) (e : Entry) (after : List Entry) → h ≡ before ++ e ∷ after → P before e

-- the entry emits a packet of c with these flags
pub record Emits (e : Entry) (c : ConnKey) (flags : Flags) (p : Packet) : Type 0 where
  pub datagram : Datagram
  pub stands : Contains (emits e) datagram
  pub reads : packet_of datagram ≡ Some p
  pub key : key_of p.head ≡ c
  pub flags_are : p.head.flags ≡ flags

-- ---- the form of what is emitted

-- the datagram goes in the direction of this connection's rows (true), or against it (false)
abbrev pub IsDirected : Bool → Datagram → ConnKey → Type 0
IsDirected true d key = (d.from ≡ key.from) × (d.to ≡ key.to)
IsDirected false d key = (d.from ≡ key.to) × (d.to ≡ key.from)

-- a datagram that the hub of this place may emit: from here, a header with its body, between the two ends of its
-- connection
pub record IsFormed (place : Place) (d : Datagram) : Type 0 where
  pub packet : Packet
  pub spelled : Heads packet.head packet.body d.bytes
  pub session : packet.head.session ≡ place.session
  pub src_content : IsSegment packet.head.src_content
  pub dst_content : IsSegment packet.head.dst_content
  pub from : d.from ≡ place.at
  pub ends : IsDirected (goes_forth packet.head.flags) d (key_of packet.head)

-- packets of rows with the same number are the same datagram
abbrev pub SameAgain : ConnKey → List Entry → Type 0
SameAgain c h = (d other : Datagram) (p q : RowPacket) → Contains (emitted_of h) d → Contains (emitted_of h) other
    → rows_in c d ≡ p ∷ [] → rows_in c other ≡ q ∷ [] → p.seq ≡ q.seq → d ≡ other

-- ---- what was sent

abbrev pub final_of : Option (List (List ℕ)) → List Sealed
final_of None = []
final_of (Some group) = final group ∷ []

abbrev pub chunks_in : Option (List (List ℕ)) → List (List ℕ)
chunks_in None = []
chunks_in (Some group) = group

-- one list is the front of another
abbrev pub IsPrefix : {A : Type 0} → List A → List A → Type 0
IsPrefix {A = A} xs ys = (rest : List A) × (ys ≡ xs ++ rest)

-- The packets carry the put chunks, in order. The end of stream comes after all of them, and only if the stream is
-- finished.
pub record Fills (puts : List (List ℕ)) (finished : Type 0) (packets : List Sealed) : Type 0 where
  pub groups : List (List (List ℕ))
  pub end : Option (List (List ℕ))
  pub are : packets ≡ map plain groups ++ final_of end
  pub front : IsPrefix (together groups ++ chunks_in end) puts
  pub all : (group : List (List ℕ)) → end ≡ Some group → (together groups ++ group ≡ puts) × finished

-- packets of rows as they were emitted: those with the numbers 1 to k, each for the first time after all lesser ones,
-- and any of them again
pub record SentUpto (packets : List Sealed) (rows : List RowPacket) (k : ℕ) : Type 0 where
  pub within : k ≤ length packets
  pub each : (p : RowPacket) → Contains rows p → (1 ≤ p.seq) × (p.seq ≤ k) × (slice_get packets (p.seq - 1) ≡ Some (record { payload = p.payload; last = p.last }))
  pub all : (n : ℕ) → 1 ≤ n → n ≤ k → (p : RowPacket) × Contains rows p × (p.seq ≡ n)
  pub order : (front back : List RowPacket) (p : RowPacket) → rows ≡ front ++ p ∷ back → (n : ℕ) → 1 ≤ n → n < p.seq → (q : RowPacket) × Contains front q × (q.seq ≡ n)

-- the packets of rows emitted on c are those with the numbers 1 to k, of packets that carry what was put
pub record Sends (c : ConnKey) (h : List Entry) : Type 0 where
  pub packets : List Sealed
  pub k : ℕ
  pub sent : SentUpto packets (rows_emitted_of c h) k
  pub fills : Fills (chunks_put_of c h) (IsFinished c h) packets

-- ---- what was taken

-- a parcel taken on c is the packet of rows with the next number, which came before
abbrev pub TakesNext : ConnKey → List Entry → Entry → Type 0
TakesNext c before e = (p : Parcel) → takes c e ≡ p ∷ []
    → Contains (rows_arrived_of c before) (record { seq = length (parcels_of c before) + 1; payload = p.payload; last = p.last })

-- ---- what answers tell

-- packets 1 to r had come
abbrev pub RunHad : ConnKey → ℕ → List Entry → Type 0
RunHad c r h = (n : ℕ) → 1 ≤ n → n ≤ r → (q : RowPacket) × Contains (rows_arrived_of c h) q × (q.seq ≡ n)

-- an answer tells only of packets that had come by then, and an Ack the number of parcels taken by then
pub record Tells (c : ConnKey) (now : List Entry) (e : Entry) : Type 0 where
  pub ack : (p : Packet) → Emits e c Ack p → RunHad c p.head.seq now × (p.head.extra ≡ length (parcels_of c now))
  pub duplicate : (p : Packet) → Emits e c Duplicate p → RunHad c p.head.extra now
  pub disorder : (p : Packet) → Emits e c Disorder p → (r : ℕ) × (more : List ℕ) × (p.body ≡ to_be_bytes w32 (r + 1) ++ more) × RunHad c r now

-- ---- stops and ends

-- a Stop is emitted only after a halt, or after the query or one with a greater number was left
abbrev pub StopsAsked : ConnKey → List Entry → Entry → Type 0
StopsAsked c now e = (p : Packet) → Emits e c Stop p → IsHaltAsked c now ⊎ ((query : ℕ) × Contains (left_of now) query × (c.query ≤ query))

-- there is nothing more to take: everything was taken, or the connection is halted
abbrev pub IsEnded : ConnKey → List Entry → Type 0
IsEnded c h = IsWhole c h ⊎ IsHalted c h

-- the stream is finished, and the packet with the end of stream was acknowledged
pub record IsAcknowledged (c : ConnKey) (h : List Entry) : Type 0 where
  pub finished : IsFinished c h
  pub packet : RowPacket
  pub emitted : Contains (rows_emitted_of c h) packet
  pub last : packet.last ≡ true
  pub heard : packet.seq ≤ run_heard c h

-- an end that doesn't prevent its query from being left
abbrev pub IsClear : ConnEnd → List Entry → Type 0
IsClear end h = (end.sending ≡ false → IsEnded end.key h) × (end.sending ≡ true → IsStopped end.key h ⊎ IsAcknowledged end.key h)

-- the query began with these ends, and wasn't left since
pub record IsLive (query : ℕ) (ends : List ConnEnd) (h : List Entry) : Type 0 where
  pub before : List Entry
  pub reply : HubReply
  pub after : List Entry
  pub all : h ≡ before ++ record { ask = Begin query ends; reply = reply } ∷ after
  pub begun : was_begun reply ≡ true
  pub stays : Contains (left_of after) query → ⊥

-- the end is one of a live query
pub record IsHere (end : ConnEnd) (h : List Entry) : Type 0 where
  pub ends : List ConnEnd
  pub live : IsLive end.key.query ends h
  pub stands : Contains ends end
