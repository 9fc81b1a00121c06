-- What a hub replies to a datagram that comes, and to calls that begin, clear and leave queries.
use Rattle.std.specs.Prelude.{◌≡◌, ◌≢◌, ℕ, ◌≤◌, ◌⊎◌, ℤ, ◌<ℤ◌, ◌≤ℤ◌, List, [], ◌∷◌, ◌++◌, Bool, true, false, not, Some, None, Option, Ok, Err, Contains}
use Rattle.ic_base.specs.declared.keys.ConnKey.{ConnKey}
use Rattle.ic_base.specs.declared.keys.ConnEnd.{ConnEnd}
use Rattle.ic_base.specs.declared.keys.BeginNo.TheVariants.{Old, Twice}
use Rattle.ic_base.specs.declared.datagram.Datagram.{Datagram}
use Rattle.ic_base.specs.declared.datagram.Parcel.{Parcel}
use Rattle.ic_header.specs.declared.header.Header.{Header}
use Rattle.ic_header.specs.declared.flags.Flags.{Flags}
use Rattle.ic_header.specs.declared.flags.Flags.TheVariants as flags
use Rattle.ic_header.specs.Spelling.{written}
use Rattle.ic_law.specs.declared.history.HubAsk.TheVariants.{Put, Finish, Take, TakeFrom, Halt}
use Rattle.ic_law.specs.declared.history.HubReply.{HubReply}
use Rattle.ic_law.specs.declared.history.HubReply.TheVariants.{Begun, Gave, Took, Came, Cleared, Left, Memory}
use Rattle.ic_law.specs.declared.history.Arrived.TheVariants.{Dropped}
use Rattle.ic_law.specs.declared.history.DropCause.TheVariants.{Foreign, Late}
use Rattle.ic_law.specs.declared.history.HubNo.TheVariants as refused
use Rattle.ic_law.specs.declared.history.HubNo.{HubNo}
use Rattle.ic_law.specs.declared.history.LeaveNo.TheVariants as leave
use Rattle.ic_law.specs.declared.history.Unclear.{Unclear}
use Rattle.ic_law.specs.declared.history.Entry.{Entry}
use Rattle.ic_header.specs.Packets.{turned_header, Packet, RowPacket, key_of, goes_forth, IsSegment}
use Rattle.ic_law.specs.Queries.{left_of}
use Rattle.ic_law.specs.Points.{Place, IsDirected, IsLive, IsHere, IsEnded, IsClear}
use Rattle.ic_law.specs.Receiving.{handled, IsNext, IsTaken}

-- a query is live
abbrev pub IsLiveQuery : ℕ → List Entry → Type 0
IsLiveQuery query h = (ends : List ConnEnd) × IsLive query ends h

-- the query, or one with a greater number, was left
abbrev pub IsOld : ℕ → List Entry → Type 0
IsOld query h = (left : ℕ) × Contains (left_of h) left × (query ≤ left)

-- ---- datagrams

-- A datagram on none of this hub's connections, for one of these reasons: its header names no segment; it isn't to this
-- segment; it doesn't go between the ends in its header, in its direction; it is of another session; or its query is
-- live, but without this connection.
pub data IsForeign (place : Place) (h : List Entry) (d : Datagram) (head : Header) : Type 0 where
  NoSegment : (IsSegment head.src_content × IsSegment head.dst_content → ⊥) → IsForeign place h d head
  NotHere : d.to ≢ place.at → IsForeign place h d head
  Misdirected : (IsDirected (goes_forth head.flags) d (key_of head) → ⊥) → IsForeign place h d head
  OtherSession : head.session ≢ place.session → IsForeign place h d head
  NoSuchKey : IsLiveQuery head.query h → ((end : ConnEnd) → IsHere end h → end.key ≢ key_of head) → IsForeign place h d head

-- the answer to a packet of an unknown connection
abbrev pub turned_back : Place → Datagram → Header → Flags → Datagram
turned_back place d head flags = record { from = place.at; to = d.from; bytes = written (turned_header head flags) }

-- What happens to a datagram that is read as a packet. No datagram fits two rules. If its query has ended, rows and
-- status queries are answered by Stop; if its query hasn't begun, by Nak. Answers in such queries are dropped. If its
-- query is live, the end of the connection decides.
pub data Arrives (place : Place) (h : List Entry) (d : Datagram) (p : Packet) (reply : HubReply) : Type 0 where
  Stranger : IsForeign place h d p.head → reply ≡ Came (Dropped Foreign) [] → Arrives place h d p reply
  OfEnded : (IsForeign place h d p.head → ⊥) → (IsLiveQuery p.head.query h → ⊥) → goes_forth p.head.flags ≡ true → IsOld p.head.query h
      → reply ≡ handled (turned_back place d p.head flags.Stop) → Arrives place h d p reply
  OfNotBegun : (IsForeign place h d p.head → ⊥) → (IsLiveQuery p.head.query h → ⊥) → goes_forth p.head.flags ≡ true → (IsOld p.head.query h → ⊥)
      → reply ≡ handled (turned_back place d p.head flags.Nak) → Arrives place h d p reply
  TooLate : (IsForeign place h d p.head → ⊥) → (IsLiveQuery p.head.query h → ⊥) → goes_forth p.head.flags ≡ false → reply ≡ Came (Dropped Late) [] → Arrives place h d p reply
  Known : (IsForeign place h d p.head → ⊥) → (end : ConnEnd) → IsHere end h → end.key ≡ key_of p.head → end.sending ≡ not (goes_forth p.head.flags) → Arrives place h d p reply

-- ---- calls on ends that aren't there

-- no live query has an end with this key and this side
abbrev pub IsUnknownKey : Bool → ConnKey → List Entry → Type 0
IsUnknownKey sending key h = (end : ConnEnd) → IsHere end h → end.key ≡ key → end.sending ≡ sending → ⊥

-- a receiving end of this motion
pub record IsOfMotion (query motion : ℕ) (end : ConnEnd) (h : List Entry) : Type 0 where
  pub here : IsHere end h
  pub receiving : end.sending ≡ false
  pub query_is : end.key.query ≡ query
  pub motion_is : end.key.motion ≡ motion

abbrev pub unknown : ℕ → ℕ → HubNo
unknown query motion = refused.Unknown query motion

-- If there is no such end, the answer is Unknown, before all other refusals. Only Memory may come instead.
pub record KnowsEnds (before : List Entry) (e : Entry) : Type 0 where
  pub put : (key : ConnKey) (chunk : List ℕ) → e.ask ≡ Put key chunk → IsUnknownKey true key before → e.reply ≢ Memory → e.reply ≡ Gave (Err (unknown key.query key.motion))
  pub finish : (key : ConnKey) → e.ask ≡ Finish key → IsUnknownKey true key before → e.reply ≢ Memory → e.reply ≡ Gave (Err (unknown key.query key.motion))
  pub halt : (key : ConnKey) → e.ask ≡ Halt key → IsUnknownKey false key before → e.reply ≢ Memory → e.reply ≡ Gave (Err (unknown key.query key.motion))
  pub take_from : (key : ConnKey) → e.ask ≡ TakeFrom key → IsUnknownKey false key before → e.reply ≢ Memory → e.reply ≡ Took (Err (unknown key.query key.motion))
  pub take : (query motion : ℕ) → e.ask ≡ Take query motion → ((end : ConnEnd) → IsOfMotion query motion end before → ⊥) → e.reply ≢ Memory
      → e.reply ≡ Took (Err (unknown query motion))

-- ---- a take from any sender

-- a sender whose next packet can be taken
pub record IsReady (query motion : ℕ) (before : List Entry) (end : ConnEnd) : Type 0 where
  pub of_motion : IsOfMotion query motion end before
  pub goes_on : IsEnded end.key before → ⊥
  pub packet : RowPacket
  pub next : IsNext end.key before packet

-- the entry is a take of this motion, and its parcel is from this sender
pub record IsServed (query motion : ℕ) (e : Entry) (from : ℤ) : Type 0 where
  pub parcel : Parcel
  pub ds : List Datagram
  pub ask : e.ask ≡ Take query motion
  pub reply : e.reply ≡ Took (Ok (parcel, ds))
  pub sender : from ≡ parcel.from

-- the sender of the last parcel that a take of this motion gave, or None if there was none
pub data LastServed (query motion : ℕ) (h : List Entry) : Option ℤ → Type 0 where
  Nobody : ((e : Entry) (from : ℤ) → Contains h e → IsServed query motion e from → ⊥) → LastServed query motion h None
  Somebody : (before : List Entry) (e : Entry) (after : List Entry) (from : ℤ) → h ≡ before ++ e ∷ after → IsServed query motion e from
      → ((x : Entry) (other : ℤ) → Contains after x → IsServed query motion x other → ⊥) → LastServed query motion h (Some from)

-- a comes before b in cyclic order, counted from the sender served last; if there is none, the lesser number comes
-- first
abbrev pub ComesBefore : Option ℤ → ℤ → ℤ → Type 0
ComesBefore None a b = a <ℤ b
ComesBefore (Some last) a b = ((last <ℤ a) × ((b ≤ℤ last) ⊎ (a <ℤ b))) ⊎ ((a ≤ℤ last) × (b ≤ℤ last) × (a <ℤ b))

-- The answer to a take from any sender of a motion: Ended if all its senders are ended; Empty if none of the others has
-- its next packet; otherwise the parcel of the first sender, in cyclic order, that has it.
pub data AnswersTakeAny (query motion : ℕ) (before : List Entry) (reply : HubReply) : Type 0 where
  AllOver : ((end : ConnEnd) → IsOfMotion query motion end before → IsEnded end.key before) → reply ≡ Took (Err refused.Ended) → AnswersTakeAny query motion before reply
  NoneReady : (open_end : ConnEnd) → IsOfMotion query motion open_end before → (IsEnded open_end.key before → ⊥) → ((end : ConnEnd) → IsReady query motion before end → ⊥)
      → reply ≡ Took (Err refused.Empty) → AnswersTakeAny query motion before reply
  Serves : (end : ConnEnd) → IsReady query motion before end → (last : Option ℤ) → LastServed query motion before last
      → ((other : ConnEnd) → IsReady query motion before other → (end.key.from ≡ other.key.from) ⊎ ComesBefore last end.key.from other.key.from)
      → (parcel : Parcel) (ds : List Datagram) → IsTaken end before parcel ds → reply ≡ Took (Ok (parcel, ds)) → AnswersTakeAny query motion before reply

-- ---- queries

-- the greatest query that was left
pub record IsGreatestLeft (h : List Entry) (top : ℕ) : Type 0 where
  pub bound : (n : ℕ) → Contains (left_of h) n → n ≤ top
  pub here : Contains (left_of h) top

pub data AnswersBegin (query : ℕ) (before : List Entry) (reply : HubReply) : Type 0 where
  IsOldOne : (top : ℕ) → IsGreatestLeft before top → query ≤ top → reply ≡ Begun (Err (Old top)) → AnswersBegin query before reply
  IsTwice : (IsOld query before → ⊥) → IsLiveQuery query before → reply ≡ Begun (Err Twice) → AnswersBegin query before reply
  IsNew : (IsOld query before → ⊥) → (IsLiveQuery query before → ⊥) → reply ≡ Begun (Ok tt) → AnswersBegin query before reply

-- all of these ends are clear
abbrev pub AreClear : List ConnEnd → List Entry → Type 0
AreClear ends h = (end : ConnEnd) → Contains ends end → IsClear end h

-- the first of these ends that isn't clear has this key
pub record IsFirstUnclear (ends : List ConnEnd) (h : List Entry) (key : ConnKey) : Type 0 where
  pub front : List ConnEnd
  pub end : ConnEnd
  pub back : List ConnEnd
  pub all : ends ≡ front ++ end ∷ back
  pub clear : AreClear front h
  pub unclear : IsClear end h → ⊥
  pub is : key ≡ end.key

pub data AnswersClear (query : ℕ) (before : List Entry) (reply : HubReply) : Type 0 where
  ClearNow : (ends : List ConnEnd) → IsLive query ends before → AreClear ends before → reply ≡ Cleared (Ok tt) → AnswersClear query before reply
  NotClear : (ends : List ConnEnd) → IsLive query ends before → (key : ConnKey) → IsFirstUnclear ends before key
      → (refusal : Unclear) → refusal.0 ≡ key → reply ≡ Cleared (Err refusal) → AnswersClear query before reply

pub data AnswersLeave (query : ℕ) (before : List Entry) (reply : HubReply) : Type 0 where
  LeavesNow : (ends : List ConnEnd) → IsLive query ends before → AreClear ends before → reply ≡ Left (Ok tt) → AnswersLeave query before reply
  LeftUnclear : (ends : List ConnEnd) → IsLive query ends before → (key : ConnKey) → IsFirstUnclear ends before key → reply ≡ Left (Err (leave.Unclear key)) → AnswersLeave query before reply
  LeftNothing : (IsLiveQuery query before → ⊥) → reply ≡ Left (Err leave.NotLive) → AnswersLeave query before reply
