-- The hub law: what one hub may emit and reply. Each point is about one entry, given the entries before it.
use Rattle.std.specs.Prelude.{◌≡◌, ◌≢◌, ◌⊎◌, ℕ, List, [], ◌∷◌, ◌++◌, true, false, Some, Err, Contains}
use Rattle.ic_base.specs.declared.keys.ConnKey.{ConnKey}
use Rattle.ic_base.specs.declared.keys.ConnEnd.{ConnEnd}
use Rattle.ic_base.specs.declared.datagram.Datagram.{Datagram}
use Rattle.ic_header.specs.declared.fault.HeaderFault.{HeaderFault}
use Rattle.ic_header.specs.Reading.{read_header}
use Rattle.ic_law.specs.declared.history.HubAsk.{HubAsk}
use Rattle.ic_law.specs.declared.history.HubAsk.TheVariants.{Begin, Put, Finish, Take, TakeFrom, Halt, Arrive, Tick, Clear, Leave}
use Rattle.ic_law.specs.declared.history.HubReply.{HubReply}
use Rattle.ic_law.specs.declared.history.HubReply.TheVariants.{Begun, Gave, Took, Came, Ticked, Cleared, Left, Memory}
use Rattle.ic_law.specs.declared.history.Arrived.TheVariants.{Dropped}
use Rattle.ic_law.specs.declared.history.DropCause.TheVariants as cause
use Rattle.ic_law.specs.declared.history.TickNo.{TickNo}
use Rattle.ic_law.specs.declared.history.TickNo.TheVariants.{Spent}
use Rattle.ic_law.specs.declared.history.Entry.{Entry}
use Rattle.ic_header.specs.declared.flags.Flags.{Flags}
use Rattle.ic_law.specs.Asking.{IsAllowed}
use Rattle.ic_law.specs.Spending.{IsFirstSpent}
use Rattle.ic_header.specs.Packets.{Packet, packet_of, goes_forth}
use Rattle.ic_law.specs.History.{emits}
use Rattle.ic_law.specs.Hearing.{IsStopped}
use Rattle.ic_law.specs.Queries.{was_left}
use Rattle.ic_law.specs.Points.{Place, Every, Emits, IsFormed, SameAgain, Sends, TakesNext, Tells, StopsAsked, IsHere, IsClear}
use Rattle.ic_law.specs.Receiving.{Answers}
use Rattle.ic_law.specs.Sending.{Refuses}
use Rattle.ic_law.specs.Arriving.{Arrives, KnowsEnds, IsOfMotion, AnswersTakeAny, AnswersBegin, AnswersClear, AnswersLeave, IsLiveQuery}

-- ---- replies fit their calls

pub data Kind : Type 0 where
  Beginning : Kind
  Giving : Kind
  Taking : Kind
  Coming : Kind
  Ticking : Kind
  Clearing : Kind
  Leaving : Kind
  Refusing : Kind

abbrev pub kind_asked : HubAsk → Kind
kind_asked (Begin query ends) = Beginning
kind_asked (Put key chunk) = Giving
kind_asked (Finish key) = Giving
kind_asked (Take query motion) = Taking
kind_asked (TakeFrom key) = Taking
kind_asked (Halt key) = Giving
kind_asked (Arrive d) = Coming
kind_asked Tick = Ticking
kind_asked (Clear query) = Clearing
kind_asked (Leave query) = Leaving

abbrev pub kind_replied : HubReply → Kind
kind_replied (Begun r) = Beginning
kind_replied (Gave r) = Giving
kind_replied (Took r) = Taking
kind_replied (Came how ds) = Coming
kind_replied (Ticked r) = Ticking
kind_replied (Cleared r) = Clearing
kind_replied (Left r) = Leaving
kind_replied Memory = Refusing

-- the reply is of the kind that answers the call, or it is Memory
abbrev pub IsReplyTo : HubAsk → HubReply → Type 0
IsReplyTo ask reply = (reply ≡ Memory) ⊎ (kind_replied reply ≡ kind_asked ask)

-- ---- why something is emitted

-- a call that can be answered with a packet to a sending end: a take, a halt, or an arrival of a packet from there
abbrev pub MayAnswer : HubAsk → Type 0
MayAnswer (Begin query ends) = ⊥
MayAnswer (Put key chunk) = ⊥
MayAnswer (Finish key) = ⊥
MayAnswer (Take query motion) = Unit {0}
MayAnswer (TakeFrom key) = Unit {0}
MayAnswer (Halt key) = Unit {0}
MayAnswer (Arrive d) = (p : Packet) × (packet_of d ≡ Some p) × (goes_forth p.head.flags ≡ true)
MayAnswer Tick = ⊥
MayAnswer (Clear query) = ⊥
MayAnswer (Leave query) = ⊥

-- there is a sending end for this connection, and it isn't stopped
pub record IsSendingEnd (before : List Entry) (e : Entry) (c : ConnKey) : Type 0 where
  pub end : ConnEnd
  pub here : IsHere end before
  pub key : end.key ≡ c
  pub sends : end.sending ≡ true
  pub goes_on : IsStopped c (before ++ e ∷ []) → ⊥

-- ---- the law

-- the points of one entry
pub record HubPoint (place : Place) (before : List Entry) (e : Entry) : Type 0 where
  pub replied : IsReplyTo e.ask e.reply
  pub allowed : e.reply ≢ Memory → IsAllowed place before e.ask
  -- form
  pub formed : (d : Datagram) → Contains (emits e) d → IsFormed place d
  pub same : (c : ConnKey) → SameAgain c (before ++ e ∷ [])
  pub forth : (c : ConnKey) (flags : Flags) (p : Packet) → goes_forth flags ≡ true → Emits e c flags p → IsSendingEnd before e c
  pub back : (c : ConnKey) (flags : Flags) (p : Packet) → goes_forth flags ≡ false → Emits e c flags p → MayAnswer e.ask
  -- what was sent
  pub sent : (c : ConnKey) → Sends c (before ++ e ∷ [])
  -- what was taken, on connections of this session that end here
  pub taken : (c : ConnKey) → c.session ≡ place.session → c.to ≡ place.at → TakesNext c before e
  -- what answers tell
  pub told : (c : ConnKey) → Tells c (before ++ e ∷ []) e
  -- stops and ends
  pub stopped : (c : ConnKey) → StopsAsked c (before ++ e ∷ []) e
  pub cleared : (query : ℕ) → e.ask ≡ Leave query → was_left e.reply ≡ true → (end : ConnEnd) → IsHere end before → end.key.query ≡ query → IsClear end before
  -- refusals
  pub known : KnowsEnds before e
  pub refused : (end : ConnEnd) → end.sending ≡ true → IsHere end before → Refuses place.settings end before e
  pub take : (query motion : ℕ) → e.ask ≡ Take query motion → (end : ConnEnd) → IsOfMotion query motion end before → e.reply ≢ Memory → AnswersTakeAny query motion before e.reply
  pub begin : (query : ℕ) (ends : List ConnEnd) → e.ask ≡ Begin query ends → e.reply ≢ Memory → AnswersBegin query before e.reply
  pub clear : (query : ℕ) → e.ask ≡ Clear query → IsLiveQuery query before → AnswersClear query before e.reply
  pub leave : (query : ℕ) → e.ask ≡ Leave query → e.reply ≢ Memory → AnswersLeave query before e.reply
  pub tick : (refusal : TickNo) → e.reply ≡ Ticked (Err refusal) → (key : ConnKey) × (seq : ℕ) × IsFirstSpent place.settings before key seq × (refusal ≡ Spent key seq place.settings.retries)
  -- arrivals
  pub arrived : (d : Datagram) (p : Packet) → e.ask ≡ Arrive d → packet_of d ≡ Some p → e.reply ≢ Memory → Arrives place before d p e.reply
  pub unread : (d : Datagram) (fault : HeaderFault) → e.ask ≡ Arrive d → read_header d.bytes ≡ Err fault → e.reply ≢ Memory → e.reply ≡ Came (Dropped (cause.Header fault)) []
  pub answered : (end : ConnEnd) → end.sending ≡ false → IsHere end before → Answers place.settings end before e

-- each entry of a hub's whole history has its points
abbrev pub HubLaw : Place → List Entry → Type 0
HubLaw place h = Every (HubPoint place) h
