-- Which entries of a hub's history are calls of a sending connection, and which don't concern it.
use Rattle.std.specs.Prelude.{◌≡◌, ◌⊎◌, ◌↔◌, ℕ, List, [], ◌∷◌, ◌++◌, Bool, true, false, None, Some, Result, Ok, Err, Contains}
use Rattle.std.specs.List.{flat_map}
use Rattle.ic_base.specs.declared.keys.ConnKey.{ConnKey}
use Rattle.ic_base.specs.declared.keys.ConnEnd.{ConnEnd}
use Rattle.ic_base.specs.declared.datagram.Datagram.{Datagram}
use Rattle.ic_header.specs.declared.flags.Flags.{Flags}
use Rattle.ic_header.specs.declared.flags.Flags.TheVariants.{Disorder}
use Rattle.ic_expire.specs.Items.{is_due}
use Rattle.ic_expire.specs.Queue.{dues_of, held_of, without}
use Rattle.ic_expire.specs.declared.item.Item.{Item}
use Rattle.ic_law.specs.declared.history.HubAsk.TheVariants.{Put, Finish, Arrive, Tick}
use Rattle.ic_law.specs.declared.history.HubReply.{HubReply}
use Rattle.ic_law.specs.declared.history.HubReply.TheVariants.{Gave, Came, Ticked, Memory}
use Rattle.ic_law.specs.declared.history.Arrived.TheVariants.{Handled, Dropped}
use Rattle.ic_law.specs.declared.history.DropCause.TheVariants as cause
use Rattle.ic_law.specs.declared.history.HubNo.TheVariants as no
use Rattle.ic_law.specs.declared.history.Entry.{Entry}
use Rattle.ic_header.specs.Packets.{Packet, packet_of, key_of, goes_forth}
use Rattle.ic_law.specs.History.{emits, rows_in}
use Rattle.ic_law.specs.Putting.{puts, finishes}
use Rattle.ic_law.specs.Hearing.{hears}
use Rattle.ic_law.specs.Numbers.{IsIncreasingFrom}
use Rattle.ic_law.specs.Points.{IsDirected, IsHere}
use Rattle.ic_law.specs.Clock.{ticks_by}
use Rattle.ic_law.specs.Emitting.{queries_in, query_due}
use Rattle.ic_sender.specs.declared.send_no.SendNo.{SendNo}
use Rattle.ic_sender.specs.declared.send_no.SendNo.TheVariants as refused
use Rattle.ic_sender.specs.Sending.{Sending, spent_of, trying, waits_longer, querying, copies}
use Rattle.ic_sender.specs.Calls.{is_unanswered, queries_next}

-- ---- calls

-- what a put or a finish gave, as the hub's reply
abbrev pub gave_of : Result (List Datagram) SendNo → HubReply
gave_of (Ok ds) = Gave (Ok ds)
gave_of (Err refused.Full) = Gave (Err no.Full)
gave_of (Err refused.Stopped) = Gave (Err no.Stopped)
gave_of (Err (refused.TooLong key)) = Gave (Err (no.TooLong key))
gave_of (Err (refused.Spent key seq tries)) = Memory
gave_of (Err refused.Stray) = Memory
gave_of (Err refused.Memory) = Memory

-- what an answer gave
abbrev pub came_of : Result (List Datagram) SendNo → HubReply
came_of (Ok ds) = Came Handled ds
came_of (Err refused.Stray) = Came (Dropped cause.Stray) []
came_of (Err refused.Full) = Memory
came_of (Err refused.Stopped) = Memory
came_of (Err (refused.TooLong key)) = Memory
came_of (Err (refused.Spent key seq tries)) = Memory
came_of (Err refused.Memory) = Memory

-- this chunk was put on c, with this result
pub record IsPutting (c : ConnKey) (chunk : List ℕ) (result : Result (List Datagram) SendNo) (e : Entry) : Type 0 where
  pub ask : e.ask ≡ Put c chunk
  pub reply : e.reply ≡ gave_of result

-- the end of stream was put on c
pub record IsFinishing (c : ConnKey) (result : Result (List Datagram) SendNo) (e : Entry) : Type 0 where
  pub ask : e.ask ≡ Finish c
  pub reply : e.reply ≡ gave_of result

-- an answer of c came from its other end, with these numbers, and this body if it lists what is missing
pub record IsHearing (c : ConnKey) (flags : Flags) (seq extra : ℕ) (body : List ℕ) (result : Result (List Datagram) SendNo) (e : Entry) : Type 0 where
  pub datagram : Datagram
  pub packet : Packet
  pub ask : e.ask ≡ Arrive datagram
  pub directed : IsDirected false datagram c
  pub reads : packet_of datagram ≡ Some packet
  pub key : key_of packet.head ≡ c
  pub flags_are : packet.head.flags ≡ flags
  pub seq_is : packet.head.seq ≡ seq
  pub extra_is : packet.head.extra ≡ extra
  pub lists : flags ≡ Disorder → packet.body ≡ body
  pub reply : e.reply ≡ came_of result

-- ---- ticks

-- these are c's among the datagrams that an entry emits
pub record AreAmong (c : ConnKey) (mine ds : List Datagram) : Type 0 where
  pub rows : flat_map (rows_in c) ds ≡ flat_map (rows_in c) mine
  pub queries : flat_map (queries_in c) ds ≡ flat_map (queries_in c) mine
  pub each : (d : Datagram) → Contains ds d → Contains mine d ⊎ ((rows_in c d ≡ []) × (queries_in c d ≡ []))

-- a tick that wasn't refused, with these datagrams of c
pub record IsTicking (c : ConnKey) (mine : List Datagram) (e : Entry) : Type 0 where
  pub ds : List Datagram
  pub ask : e.ask ≡ Tick
  pub reply : e.reply ≡ Ticked (Ok ds)
  pub among : AreAmong c mine ds

abbrev pub tried_when : List ℕ → Sending → Sending
tried_when [] s = s
tried_when (n ∷ numbers) s = trying (n ∷ numbers) s

abbrev pub queried_when : Bool → ℕ → Sending → Sending
queried_when true now s = querying now s
queried_when false now s = s

-- What one tick does with a connection. The queue was asked at now for what is due, and gave these numbers for it; none of
-- them is spent, nor is a query. They are emitted again and wait again, a query that is due is emitted, and what waits
-- for other connections is theirs.
pub record Ticks (now : ℕ) (old : Sending) (held : List Item) (mine : List Datagram) (new : Sending) (left : List Item) : Type 0 where
  pub numbers : List ℕ
  pub increase : IsIncreasingFrom 1 numbers
  pub due : (n : ℕ) → Contains numbers n ↔ Contains (dues_of now held) (record { conn = old.conn; seq = n })
  pub unspent : spent_of old numbers ≡ None
  pub answered : is_unanswered old.settings.retries now old.asked ≡ false
  pub datagrams : mine ≡ copies old.flights numbers ++ queries_next now old
  pub state : new ≡ queried_when (query_due now old.asked) now (tried_when numbers old)
  pub waits : held_of old.conn left ≡ held_of old.conn (waits_longer now old numbers (without (is_due now) held))

-- ---- others

-- the entry puts, hears and emits nothing of c
pub record IsNothingOf (c : ConnKey) (e : Entry) : Type 0 where
  pub puts_none : puts c e ≡ []
  pub finishes_none : finishes c e ≡ false
  pub hears_none : hears c e ≡ []
  pub rows : flat_map (rows_in c) (emits e) ≡ []
  pub queries : flat_map (queries_in c) (emits e) ≡ []

-- an entry before the end is there
pub record IsBefore (end : ConnEnd) (before : List Entry) (e : Entry) : Type 0 where
  pub nothing : IsNothingOf end.key e
  pub away : IsHere end before → ⊥

-- An entry that doesn't concern the end: nothing of it, and no tick. If the end is there, what was asked of it found no
-- memory.
pub record IsSilent (end : ConnEnd) (before : List Entry) (e : Entry) : Type 0 where
  pub nothing : IsNothingOf end.key e
  pub still : ticks_by e.reply ≡ 0
  pub put : IsHere end before → (chunk : List ℕ) → e.ask ≡ Put end.key chunk → e.reply ≡ Memory
  pub finish : IsHere end before → e.ask ≡ Finish end.key → e.reply ≡ Memory
  pub heard : IsHere end before → (d : Datagram) (p : Packet) → e.ask ≡ Arrive d → IsDirected false d end.key → packet_of d ≡ Some p → goes_forth p.head.flags ≡ false → key_of p.head ≡ end.key
      → e.reply ≡ Memory
