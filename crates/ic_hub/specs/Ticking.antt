-- What the next tick looks at in a hub, what it makes of it, and what it is refused for.
use Rattle.std.specs.Prelude.{◌≡◌, ℕ, ◌<◌, ◌++◌, List, [], ◌∷◌, map, false, if◌then◌else◌, Some, None, slice_get}
use Rattle.std.specs.List.{AllByRecursion, flat_map}
use Rattle.ic_base.specs.declared.datagram.Datagram.{Datagram}
use Rattle.ic_law.specs.declared.history.Entry.{Entry}
use Rattle.ic_law.specs.declared.history.TickNo.{TickNo}
use Rattle.ic_law.specs.declared.history.TickNo.TheVariants as no
use Rattle.ic_sender.specs.declared.send_no.SendNo.{SendNo}
use Rattle.ic_sender.specs.declared.send_no.SendNo.TheVariants as send
use Rattle.ic_sender.specs.Sending.{Sending}
use Rattle.ic_sender.specs.Entries.{IsTicking}
use Rattle.ic_timed_sender.specs.Timed.{TimedState, SameEnd, next_tick, is_due_next, numbers_due, first_spent, is_query_spent, datagrams_due, queries_due, ticking}
use Rattle.ic_timed_sender.specs.Emitted.{AreOutgoing}
use Rattle.ic_timed_sender.specs.Standing.{Stands as SenderStands, StandsNext, KeepsPackets, GivesPacketUp, KeepsQuery, GivesQueryUp}
use Rattle.ic_hub.specs.Hubbing.{Hubbing, Living}

-- ---- one connection

-- none of its packets is given up at the next tick, nor in a history for which it stands; and those that are due are of it
pub record MayResend (o : TimedState) : Type 0 where
  pub unspent : first_spent o ≡ None
  pub tells : (h : List Entry) → SenderStands o h → KeepsPackets o.sending h
  pub formed : AreOutgoing o.sending (datagrams_due o)

-- nor is its status query, and one that is due is of it
pub record MayAsk (o : TimedState) : Type 0 where
  pub answered : is_query_spent o ≡ false
  pub tells : (h : List Entry) → SenderStands o h → KeepsQuery o.sending h
  pub formed : AreOutgoing o.sending (queries_due o)

-- a tick is refused for it, which is given up in each history for which it stands; or there is no memory
pub data RefusedFor (GivesUp : Sending → ℕ → List Entry → Type 0) (o : TimedState) (refusal : TickNo) : Type 0 where
  GivenUp : (seq : ℕ) → refusal ≡ no.Spent o.sending.end.key seq o.sending.settings.retries → ((h : List Entry) → SenderStands o h → GivesUp o.sending seq h) → RefusedFor GivesUp o refusal
  Roomless : refusal ≡ no.Memory → RefusedFor GivesUp o refusal

-- what a look is never refused for becomes out of memory
abbrev pub tick_no : SendNo → TickNo
tick_no send.Full = no.Memory
tick_no send.Stopped = no.Memory
tick_no (send.TooLong key) = no.Memory
tick_no (send.Spent key seq tries) = no.Spent key seq tries
tick_no send.Stray = no.Memory
tick_no send.Memory = no.Memory

-- once a tick is over, it is the same end, and stands for each history with that tick, if the tick emits what was due of it
pub record Passes (o : TimedState) : Type 0 where
  pub end : SameEnd o (ticking o)
  pub stands : StandsNext o (ticking o) (IsTicking o.sending.end.key (datagrams_due o ++ queries_due o))

-- ---- the first of many

-- a tick is refused for the first of them for which it may be
pub record RefusedFirst {A : Type 0} (May : A → Type 0) (Refused : A → TickNo → Type 0) (xs : List A) (refusal : TickNo) : Type 0 where
  pub at : ℕ
  pub first : A
  pub here : slice_get xs at ≡ Some first
  pub before : (i : ℕ) (x : A) → i < at → slice_get xs i ≡ Some x → May x
  pub refused : Refused first refusal

-- ---- lists that are taken one after the other

-- the list has this one first, and then others
pub record Begins {A : Type 0} (front xs : List A) : Type 0 where
  pub rest : List A
  pub is : xs ≡ front ++ rest

-- once it is taken, the others are left
abbrev pub Leaves : {A : Type 0} → List A → List A → List A → Type 0
Leaves {A = A} front xs left = (rest : List A) → xs ≡ front ++ rest → left ≡ rest

-- ---- one query

-- the numbers of the packets that are due of a connection, if any is
abbrev pub plan_for : TimedState → List (List ℕ)
plan_for o = if is_due_next o then numbers_due o ∷ [] else []

-- those of each of its connections of which a packet is due
abbrev pub plan_of : Living → List (List ℕ)
plan_of l = flat_map plan_for l.senders

-- what it emits: the packets that are due of its connections in their order, and then the status queries
abbrev pub emission_of : Living → List Datagram
emission_of l = flat_map datagrams_due l.senders ++ flat_map queries_due l.senders

-- nothing of it is given up
pub record MayTick (l : Living) : Type 0 where
  pub packets : AllByRecursion MayResend l.senders
  pub queries : AllByRecursion MayAsk l.senders

-- packets come first; only if none of any connection is given up a status query is what refuses the tick
pub data RefusedIn (l : Living) (refusal : TickNo) : Type 0 where
  OfPacket : RefusedFirst MayResend (RefusedFor GivesPacketUp) l.senders refusal → RefusedIn l refusal
  OfQuery : AllByRecursion MayResend l.senders → RefusedFirst MayAsk (RefusedFor GivesQueryUp) l.senders refusal → RefusedIn l refusal
  OfNone : refusal ≡ no.Memory → RefusedIn l refusal

-- once the tick is over
abbrev pub ticked_query : Living → Living
ticked_query l = record l { senders = map ticking l.senders }

-- ---- all of them

abbrev pub ticked : Hubbing → Hubbing
ticked s = record s { tick = next_tick s.tick; live = map ticked_query s.live }
