-- What a datagram that comes makes of a hub.
use Rattle.std.specs.Prelude.{◌≡◌, ◌≢◌, ℕ, ◌+◌, ◌-◌, ◌^◌, min, ℤ, List, [], ◌∷◌, Bool, true, false, Option, Some, None, Result, Ok, Err, slice_get, slice_set, Contains}
use Rattle.std.specs.declared.alloc.AllocError.{AllocError}
use Rattle.ic_base.specs.declared.keys.ConnKey.{ConnKey}
use Rattle.ic_base.specs.declared.datagram.Datagram.{Datagram}
use Rattle.ic_header.specs.declared.fault.HeaderFault.{HeaderFault}
use Rattle.ic_header.specs.declared.header.Header.{Header}
use Rattle.ic_header.specs.declared.flags.Flags.{Flags}
use Rattle.ic_header.specs.declared.flags.Flags.TheVariants.{Stop, Nak, Query}
use Rattle.ic_header.specs.Spelling.{Heads, written}
use Rattle.ic_header.specs.Reading.{read_header}
use Rattle.ic_recvring.specs.Ring.{Packet as Kept}
use Rattle.ic_law.specs.declared.history.Arrived.{Arrived}
use Rattle.ic_law.specs.declared.history.Arrived.TheVariants.{Handled, Dropped}
use Rattle.ic_law.specs.declared.history.DropCause.TheVariants as cause
use Rattle.ic_header.specs.Packets.{key_of, is_rows, is_last, goes_forth, IsSegment}
use Rattle.ic_law.specs.Points.{IsDirected}
use Rattle.ic_header.specs.Packets.{turned_header}
use Rattle.ic_conntab.specs.Table.{is_past}
use Rattle.ic_conntab.specs.Ends.{keys_of}
use Rattle.ic_conntab.specs.declared.slots.Sides.{Sides}
use Rattle.ic_sender.specs.declared.send_no.SendNo.TheVariants.{Stray}
use Rattle.ic_sender.specs.Entries.{IsHearing as IsAnswered}
use Rattle.ic_timed_sender.specs.Timed.{TimedState, SameEnd}
use Rattle.ic_timed_sender.specs.Emitted.{AreOutgoing}
use Rattle.ic_timed_sender.specs.Standing.{StandsNext}
use Rattle.ic_receiver.specs.Receiving.{Receiving, Hears, HearsQuery}
use Rattle.ic_receiver.specs.Entries.{IsHearing, IsQuerying}
use Rattle.ic_receiver.specs.Standing.{StandsOn}
use Rattle.ic_hub.specs.declared.finding.Found.TheVariants.{Here}
use Rattle.ic_hub.specs.Hubbing.{Hubbing, Living}
use Rattle.ic_hub.specs.Finding.{IsNotLive, IsFound}

-- what became of a datagram, and what is emitted; or no memory
abbrev pub Became : Type 0
Became = Result (Arrived × List Datagram) AllocError

-- ---- one connection

-- a packet of rows, as a receiver keeps it
abbrev pub kept_of : Header → List ℕ → Kept
kept_of head body = record { seq = head.seq; last = is_last head.flags; payload = body }

-- what becomes of it, by its answer
abbrev pub told_of : Option Datagram → Arrived × List Datagram
told_of (Some d) = (Handled, d ∷ [])
told_of None = (Dropped cause.Beyond, [])

-- what a packet of rows or a status query makes of a receiver, with the answer
pub data Asks (head : Header) (body : List ℕ) (old new : Receiving) (a : Option Datagram) : Type 0 where
  WithRows : is_rows head.flags ≡ true → Hears old (kept_of head body) a new → StandsOn old new (IsHearing old.end.key (kept_of head body) a) → Asks head body old new a
  WithQuery : head.flags ≡ Query → HearsQuery old head.seq a → new ≡ old → StandsOn old new (IsQuerying old.end.key head.seq a) → Asks head body old new a

-- the same, with what becomes of it
pub data HearsForth (head : Header) (body : List ℕ) (old new : Receiving) (result : Became) : Type 0 where
  ForthWithout : (e : AllocError) → result ≡ Err e → new ≡ old → HearsForth head body old new result
  Forth : (a : Option Datagram) → result ≡ Ok (told_of a) → Asks head body old new a → HearsForth head body old new result

-- what an answer makes of a sender
pub data HearsBack (head : Header) (body : List ℕ) (old new : TimedState) (result : Became) : Type 0 where
  BackWithout : (e : AllocError) → result ≡ Err e → new ≡ old → HearsBack head body old new result
  Strays : result ≡ Ok (Dropped cause.Stray, []) → new ≡ old → SameEnd old new → StandsNext old new (IsAnswered old.sending.end.key head.flags head.seq head.extra body (Err Stray)) → HearsBack head body old new result
  Back : (ds : List Datagram) → result ≡ Ok (Handled, ds) → SameEnd old new → new.now ≡ old.now → AreOutgoing old.sending ds
      → StandsNext old new (IsAnswered old.sending.end.key head.flags head.seq head.extra body (Ok ds)) → HearsBack head body old new result

-- ---- one query

-- the receiver at this place is another now, and so it is with the two
pub record ReceiverHears (place : ℕ) (head : Header) (body : List ℕ) (l after : Living) (result : Became) : Type 0 where
  pub old : Receiving
  pub new : Receiving
  pub here : slice_get l.receivers place ≡ Some old
  pub is : after ≡ record l { receivers = slice_set l.receivers place new }
  pub hears : HearsForth head body old new result

-- so is the sender at this place
pub record SenderHears (place : ℕ) (head : Header) (body : List ℕ) (l after : Living) (result : Became) : Type 0 where
  pub old : TimedState
  pub new : TimedState
  pub here : slice_get l.senders place ≡ Some old
  pub is : after ≡ record l { senders = slice_set l.senders place new }
  pub hears : HearsBack head body old new result

-- ---- the whole hub

-- it leads between two segments, to this one, and as its header's connection does
pub record IsAddressed (at : ℤ) (d : Datagram) (head : Header) : Type 0 where
  pub from : IsSegment head.src_content
  pub to : IsSegment head.dst_content
  pub here : d.to ≡ at
  pub directed : IsDirected (goes_forth head.flags) d (key_of head)

-- the connection that a header names, if its content ids are segments
pub data NamesKey (head : Header) (key : Option ConnKey) : Type 0 where
  NamesNone : (IsSegment head.src_content × IsSegment head.dst_content → ⊥) → key ≡ None → NamesKey head key
  Names : IsSegment head.src_content → IsSegment head.dst_content → key ≡ Some (key_of head) → NamesKey head key

-- its connection, if it does
pub data Addresses (at : ℤ) (d : Datagram) (head : Header) (key : Option ConnKey) : Type 0 where
  NoSegment : (IsSegment head.src_content × IsSegment head.dst_content → ⊥) → key ≡ None → Addresses at d head key
  NotHere : d.to ≢ at → key ≡ None → Addresses at d head key
  Misdirected : (IsDirected (goes_forth head.flags) d (key_of head) → ⊥) → key ≡ None → Addresses at d head key
  Addressed : IsAddressed at d head → key ≡ Some (key_of head) → Addresses at d head key

-- it is of none of the hub's connections
pub data IsOfNone (s : Hubbing) (d : Datagram) (head : Header) : Type 0 where
  Astray : Addresses s.at d head None → IsOfNone s d head
  OtherSession : head.session ≢ s.session → IsOfNone s d head
  NoKey : (i : ℕ) (l : Living) → slice_get s.live i ≡ Some l → l.number ≡ head.query → (Contains (keys_of l.ends) (key_of head) → ⊥) → IsOfNone s d head

-- the answer to what asks of a query that isn't live: Stop if it has ended
abbrev pub turns : Bool → Flags
turns true = Stop
turns false = Nak

-- this is the answer, and it is spelled as headers are
pub record TurnsBack (at : ℤ) (d : Datagram) (head : Header) (ended : Bool) (ds : List Datagram) : Type 0 where
  pub are : ds ≡ record { from = at; to = d.from; bytes = written (turned_header head (turns ended)) } ∷ []
  pub spelled : Heads (turned_header head (turns ended)) [] (written (turned_header head (turns ended)))

-- what comes of a query that isn't live: what asks is answered, an answer comes too late
pub data ComesToNone (at : ℤ) (d : Datagram) (head : Header) (ended : Bool) (result : Became) : Type 0 where
  NoneWithout : (e : AllocError) → result ≡ Err e → ComesToNone at d head ended result
  Turned : goes_forth head.flags ≡ true → (ds : List Datagram) → TurnsBack at d head ended ds → result ≡ Ok (Handled, ds) → ComesToNone at d head ended result
  TooLate : goes_forth head.flags ≡ false → result ≡ Ok (Dropped cause.Late, []) → ComesToNone at d head ended result

-- the query at this place is another now
abbrev pub with_query : Hubbing → ℕ → Living → Hubbing
with_query s query l = record s { live = slice_set s.live query l }

-- what comes of a live query, whose ends on the two sides are these
pub data ComesToQuery (s : Hubbing) (query : ℕ) (sides : Sides) (head : Header) (body : List ℕ) (result : Became) (after : Hubbing) : Type 0 where
  AtReceiver : goes_forth head.flags ≡ true → (place : ℕ) (l m : Living) → sides.receiver ≡ Some place → slice_get s.live query ≡ Some l → ReceiverHears place head body l m result
      → after ≡ with_query s query m → ComesToQuery s query sides head body result after
  AtSender : goes_forth head.flags ≡ false → (place : ℕ) (l m : Living) → sides.sender ≡ Some place → slice_get s.live query ≡ Some l → SenderHears place head body l m result
      → after ≡ with_query s query m → ComesToQuery s query sides head body result after
  NoReceiver : goes_forth head.flags ≡ true → sides.receiver ≡ None → result ≡ Ok (Dropped cause.Foreign, []) → after ≡ s → ComesToQuery s query sides head body result after
  NoSender : goes_forth head.flags ≡ false → sides.sender ≡ None → result ≡ Ok (Dropped cause.Foreign, []) → after ≡ s → ComesToQuery s query sides head body result after

-- what a datagram that reads as a packet makes of the hub
pub data Comes (s : Hubbing) (d : Datagram) (head : Header) (body : List ℕ) (result : Became) (after : Hubbing) : Type 0 where
  ToNobody : IsOfNone s d head → result ≡ Ok (Dropped cause.Foreign, []) → after ≡ s → Comes s d head body result after
  ToNone : IsAddressed s.at d head → head.session ≡ s.session → IsNotLive s head.query → ComesToNone s.at d head (is_past s.top head.query) result → after ≡ s → Comes s d head body result after
  ToQuery : IsAddressed s.at d head → (query : ℕ) (sides : Sides) → IsFound s (key_of head) (Here query sides) → ComesToQuery s query sides head body result after
      → Comes s d head body result after

-- what any datagram makes of it, before a dropped one is counted
pub data Arrives (s : Hubbing) (d : Datagram) (result : Became) (after : Hubbing) : Type 0 where
  Unread : (fault : HeaderFault) → read_header d.bytes ≡ Err fault → result ≡ Ok (Dropped (cause.Header fault), []) → after ≡ s → Arrives s d result after
  Read : (head : Header) (body : List ℕ) → read_header d.bytes ≡ Ok (head, body) → Comes s d head body result after → Arrives s d result after

-- the count goes up if it was dropped
abbrev pub counted : Arrived → Hubbing → Hubbing
counted Handled s = s
counted (Dropped why) s = record s { dropped = min (s.dropped + 1) (2 ^ 64 - 1) }
