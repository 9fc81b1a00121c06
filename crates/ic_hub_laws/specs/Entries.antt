-- Kinds of entries of a hub's history, by the ends that they concern.
use Rattle.std.specs.Prelude.{◌≡◌, ◌≢◌, ℕ, List, [], Bool, true, false, not, Some, Ok, Err, Contains}
use Rattle.ic_base.specs.declared.keys.ConnKey.{ConnKey}
use Rattle.ic_base.specs.declared.keys.ConnEnd.{ConnEnd}
use Rattle.ic_base.specs.declared.datagram.Datagram.{Datagram}
use Rattle.ic_base.specs.declared.datagram.Parcel.{Parcel}
use Rattle.ic_header.specs.declared.fault.HeaderFault.{HeaderFault}
use Rattle.ic_header.specs.declared.flags.Flags.TheVariants.{Stop, Nak}
use Rattle.ic_header.specs.Spelling.{Heads}
use Rattle.ic_header.specs.Reading.{read_header}
use Rattle.ic_law.specs.declared.history.HubAsk.TheVariants.{Begin, Put, Finish, Take, TakeFrom, Halt, Arrive, Tick, Clear, Leave}
use Rattle.ic_law.specs.declared.history.HubReply.TheVariants.{Gave, Took, Came, Ticked, Memory}
use Rattle.ic_law.specs.declared.history.Arrived.TheVariants.{Dropped}
use Rattle.ic_law.specs.declared.history.DropCause.TheVariants as cause
use Rattle.ic_law.specs.declared.history.HubNo.{HubNo}
use Rattle.ic_law.specs.declared.history.TickNo.TheVariants.{Spent}
use Rattle.ic_law.specs.declared.history.Entry.{Entry}
use Rattle.ic_header.specs.Packets.{Packet, packet_of, key_of, goes_forth, IsSegment}
use Rattle.ic_law.specs.History.{emits}
use Rattle.ic_law.specs.Points.{Place, IsDirected, IsHere}
use Rattle.ic_law.specs.Receiving.{handled, Receives}
use Rattle.ic_law.specs.Arriving.{IsLiveQuery, IsOld, IsForeign, IsUnknownKey, IsOfMotion, unknown, turned_back, AnswersTakeAny, AnswersBegin}
use Rattle.ic_header.specs.Packets.{turned_header}
use Rattle.ic_law.specs.Arriving.{AnswersClear, AnswersLeave}
use Rattle.ic_law.specs.Spending.{IsFirstSpent}
use Rattle.ic_law.specs.Hub.{IsReplyTo}
use Rattle.ic_sender.specs.Standing.{KeepsSending}

-- ---- ends

-- an end that can stand at this place: of its session, between segments, and here on its side
pub record IsOurs (place : Place) (end : ConnEnd) : Type 0 where
  pub session : end.key.session ≡ place.session
  pub sends_here : end.sending ≡ true → end.key.from ≡ place.at
  pub receives_here : end.sending ≡ false → end.key.to ≡ place.at
  pub from : IsSegment end.key.from
  pub to : IsSegment end.key.to

-- the end of this key on this side is here
pub record HasEnd (place : Place) (c : ConnKey) (side : Bool) (h : List Entry) : Type 0 where
  pub end : ConnEnd
  pub here : IsHere end h
  pub key : end.key ≡ c
  pub side_is : end.sending ≡ side
  pub ours : IsOurs place end

-- the entry keeps the points of each end that is here
pub record EndsKeep (place : Place) (h : List Entry) (e : Entry) : Type 0 where
  pub sending : (end : ConnEnd) → end.sending ≡ true → IsHere end h → KeepsSending place.settings end h e
  pub receiving : (end : ConnEnd) → end.sending ≡ false → IsHere end h → Receives place.settings end h e

-- ---- packets

-- the datagram is a packet of c, forth from the sending end or back to it
pub record IsPacketOf (c : ConnKey) (forth : Bool) (d : Datagram) : Type 0 where
  pub packet : Packet
  pub reads : packet_of d ≡ Some packet
  pub key : key_of packet.head ≡ c
  pub way : goes_forth packet.head.flags ≡ forth

-- the datagram is a packet forth from a sending end that is here
pub record IsSentHere (h : List Entry) (d : Datagram) : Type 0 where
  pub end : ConnEnd
  pub here : IsHere end h
  pub sends : end.sending ≡ true
  pub packet : IsPacketOf end.key true d

-- ---- entries of one end

-- the ask is of one end: of c's sending end if the side is true, else of its receiving end
pub data AsksOf (place : Place) (c : ConnKey) (side : Bool) (e : Entry) : Type 0 where
  OfPut : side ≡ true → (chunk : List ℕ) → e.ask ≡ Put c chunk → AsksOf place c side e
  OfFinish : side ≡ true → e.ask ≡ Finish c → AsksOf place c side e
  OfTakeFrom : side ≡ false → e.ask ≡ TakeFrom c → AsksOf place c side e
  OfHalt : side ≡ false → e.ask ≡ Halt c → AsksOf place c side e
  OfTake : side ≡ false → c.session ≡ place.session → c.to ≡ place.at → (parcel : Parcel) (ds : List Datagram) → e.ask ≡ Take c.query c.motion
      → e.reply ≡ Took (Ok (parcel, ds)) → parcel.from ≡ c.from → AsksOf place c side e
  OfArrive : (d : Datagram) → e.ask ≡ Arrive d → IsPacketOf c (not side) d → IsDirected (not side) d c → AsksOf place c side e

-- the entry is about one end alone: what is asked is of it, and so is each packet that is emitted
pub record Concerns (place : Place) (c : ConnKey) (side : Bool) (e : Entry) : Type 0 where
  pub asks : AsksOf place c side e
  pub replied : IsReplyTo e.ask e.reply
  pub emitted : (d : Datagram) → Contains (emits e) d → IsPacketOf c side d

-- ---- entries of no end

-- The entry concerns no end. What was asked found no memory, or is refused before any end is asked, or is of queries, or
-- is a datagram of no connection here, or a tick that is refused. A question whether a query is clear always finds memory.
pub data IsNought (place : Place) (h : List Entry) (e : Entry) : Type 0 where
  NoMemory : ((query : ℕ) → e.ask ≢ Clear query) → e.reply ≡ Memory → IsNought place h e
  UnknownPut : (key : ConnKey) (chunk : List ℕ) → e.ask ≡ Put key chunk → IsUnknownKey true key h → e.reply ≡ Gave (Err (unknown key.query key.motion)) → IsNought place h e
  UnknownFinish : (key : ConnKey) → e.ask ≡ Finish key → IsUnknownKey true key h → e.reply ≡ Gave (Err (unknown key.query key.motion)) → IsNought place h e
  UnknownHalt : (key : ConnKey) → e.ask ≡ Halt key → IsUnknownKey false key h → e.reply ≡ Gave (Err (unknown key.query key.motion)) → IsNought place h e
  UnknownTakeFrom : (key : ConnKey) → e.ask ≡ TakeFrom key → IsUnknownKey false key h → e.reply ≡ Took (Err (unknown key.query key.motion)) → IsNought place h e
  UnknownTake : (query motion : ℕ) → e.ask ≡ Take query motion → ((end : ConnEnd) → IsOfMotion query motion end h → ⊥) → e.reply ≡ Took (Err (unknown query motion)) → IsNought place h e
  RefusedTake : (query motion : ℕ) → e.ask ≡ Take query motion → (end : ConnEnd) → IsOfMotion query motion end h → (why : HubNo) → e.reply ≡ Took (Err why)
      → AnswersTakeAny query motion h e.reply → IsNought place h e
  Begins : (query : ℕ) (ends : List ConnEnd) → e.ask ≡ Begin query ends → AnswersBegin query h e.reply → IsNought place h e
  Clears : (query : ℕ) → e.ask ≡ Clear query → AnswersClear query h e.reply → IsNought place h e
  Leaves : (query : ℕ) → e.ask ≡ Leave query → AnswersLeave query h e.reply → IsNought place h e
  Unread : (d : Datagram) (fault : HeaderFault) → e.ask ≡ Arrive d → read_header d.bytes ≡ Err fault → e.reply ≡ Came (Dropped (cause.Header fault)) [] → IsNought place h e
  Strange : (d : Datagram) (p : Packet) → e.ask ≡ Arrive d → packet_of d ≡ Some p → IsForeign place h d p.head → e.reply ≡ Came (Dropped cause.Foreign) [] → IsNought place h e
  EndedQuery : (d : Datagram) (p : Packet) → e.ask ≡ Arrive d → packet_of d ≡ Some p → (IsForeign place h d p.head → ⊥) → (IsLiveQuery p.head.query h → ⊥) → goes_forth p.head.flags ≡ true → IsOld p.head.query h
      → Heads (turned_header p.head Stop) [] (turned_back place d p.head Stop).bytes → e.reply ≡ handled (turned_back place d p.head Stop) → IsNought place h e
  UnbegunQuery : (d : Datagram) (p : Packet) → e.ask ≡ Arrive d → packet_of d ≡ Some p → (IsForeign place h d p.head → ⊥) → (IsLiveQuery p.head.query h → ⊥) → goes_forth p.head.flags ≡ true → (IsOld p.head.query h → ⊥)
      → Heads (turned_header p.head Nak) [] (turned_back place d p.head Nak).bytes → e.reply ≡ handled (turned_back place d p.head Nak) → IsNought place h e
  LateAnswer : (d : Datagram) (p : Packet) → e.ask ≡ Arrive d → packet_of d ≡ Some p → (IsForeign place h d p.head → ⊥) → (IsLiveQuery p.head.query h → ⊥) → goes_forth p.head.flags ≡ false
      → e.reply ≡ Came (Dropped cause.Late) [] → IsNought place h e
  RefusedTick : (key : ConnKey) (seq : ℕ) → e.ask ≡ Tick → IsFirstSpent place.settings h key seq → e.reply ≡ Ticked (Err (Spent key seq place.settings.retries)) → IsNought place h e

-- ---- ticks

-- a tick that isn't refused: each datagram is a packet forth from a sending end that is here
pub record IsTick (h : List Entry) (e : Entry) : Type 0 where
  pub ds : List Datagram
  pub ask : e.ask ≡ Tick
  pub reply : e.reply ≡ Ticked (Ok ds)
  pub each : (d : Datagram) → Contains ds d → IsSentHere h d
