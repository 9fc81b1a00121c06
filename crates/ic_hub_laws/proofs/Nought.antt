-- An entry of no end leaves each end standing.
use Rattle.std.proofs.Common.{◌≡◌, ◌≢◌, ℕ, List, [], ◌∷◌, ◌++◌, Bool, true, false, not, cond, ◌&&◌, ◌||◌, ◌==◌, Some, refl, ap, sym, ◌∙◌, subst, inl, inr, ◌⊎◌}
use Rattle.std.specs.List.{Contains, flat_map, list_any}
use Rattle.std.proofs.lemmas.List.Elements.{Contains-append_left}
use Rattle.ic_base.specs.declared.keys.ConnKey.{ConnKey}
use Rattle.ic_base.specs.declared.keys.ConnEnd.{ConnEnd}
use Rattle.ic_base.specs.declared.datagram.Datagram.{Datagram}
use Rattle.ic_base.specs.Keys.{key_eq}
use Rattle.ic_header.specs.declared.header.Header.{Header}
use Rattle.ic_header.specs.declared.flags.Flags.{Flags}
use Rattle.ic_header.specs.declared.flags.Flags.TheVariants.{Ack, Stop, Nak, Disorder, Duplicate}
use Rattle.ic_header.specs.Spelling.{Heads}
use Rattle.ic_header.specs.Reading.{read_header}
use Rattle.ic_header.proofs.Joining.{reads_spelled}
use Rattle.ic_law.specs.declared.history.HubAsk.{HubAsk}
use Rattle.ic_law.specs.declared.history.HubAsk.TheVariants.{Begin, Put, Finish, Take, TakeFrom, Halt, Arrive, Tick, Clear, Leave}
use Rattle.ic_law.specs.declared.history.HubReply.{HubReply}
use Rattle.ic_law.specs.declared.history.HubReply.TheVariants.{Memory}
use Rattle.ic_law.specs.declared.history.Entry.{Entry}
use Rattle.ic_header.specs.Packets.{Packet, packet_read, packet_of, key_of, goes_forth, IsSegment}
use Rattle.ic_law.specs.History.{rows_in, datagrams_of}
use Rattle.ic_law.specs.Putting.{chunk_put, is_finish, was_given}
use Rattle.ic_law.specs.Taking.{takes, parcel_for, parcels_from, parcels_in, halts, is_halt}
use Rattle.ic_law.specs.Storing.{stores, stored_by, datagram_tells_stored, packet_tells_stored, tells_stored}
use Rattle.ic_law.specs.Hearing.{heard_by, was_handled, answer_in}
use Rattle.ic_law.specs.Queries.{leaves, left_of}
use Rattle.ic_law.specs.Points.{Place, Emits, IsDirected, IsHere, StopsAsked}
use Rattle.ic_law.specs.Receiving.{handled}
use Rattle.ic_law.specs.Arriving.{IsLiveQuery, IsOld, IsForeign, NoSegment, NotHere, Misdirected, OtherSession, NoSuchKey, turned_back}
use Rattle.ic_header.specs.Packets.{turned_header}
use Rattle.ic_law.specs.Arriving.{AnswersBegin, IsOldOne, IsTwice, IsNew, AnswersClear, ClearNow, NotClear, AnswersLeave, LeavesNow, LeftUnclear, LeftNothing}
use Rattle.ic_law.specs.Clock.{ticks_by}
use Rattle.ic_law.specs.Emitting.{queries_in}
use Rattle.ic_law.specs.Hub.{MayAnswer}
use Rattle.ic_law.proofs.Lists.{Contains-head, Contains-none, Contains-one}
use Rattle.ic_law.proofs.Readings.{rows_in-reads, rows_go_forth, left_of-push}
use Rattle.ic_sender.specs.Entries.{IsNothingOf}
use Rattle.ic_receiver.specs.Entries.{IsSilent as IsSilentReceiving}
use Rattle.ic_hub_laws.specs.Entries.{IsOurs, IsNought, NoMemory, UnknownPut, UnknownFinish, UnknownHalt, UnknownTakeFrom, UnknownTake, RefusedTake, Begins}
use Rattle.ic_hub_laws.specs.Entries.{Clears, Leaves, Unread, Strange, EndedQuery, UnbegunQuery, LateAnswer, RefusedTick}
use Rattle.ic_hub_laws.specs.Laws.{PassesSending, NoughtPasses}
use Rattle.ic_law.proofs.Datagrams.{rows_not, queries_not_of, answer_not, flat_none, flag_of_true, one_packet, entry_is}
use Rattle.ic_hub_laws.proofs.Telling.{unread, TellsNone}
use Rattle.ic_hub_laws.proofs.Concerned.{passes}

-- ---- what it reads as

-- An entry that no connection has anything of. What it emits, if anything, is a Stop of an old query or a Nak, to an ask
-- that may be answered.
pub record IsQuiet (h : List Entry) (e : Entry) : Type 0 where
  pub nothing : (k : ConnKey) → IsNothingOf k e
  pub still : ticks_by e.reply ≡ 0
  pub takes_none : (k : ConnKey) → takes k e ≡ []
  pub stores_none : (k : ConnKey) → stores k e ≡ []
  pub halts_none : (k : ConnKey) → halts k e ≡ false
  pub turned : (k : ConnKey) (f : Flags) (p : Packet) → Emits e k f p → (f ≡ Nak) ⊎ ((f ≡ Stop) × IsOld k.query h)
  pub may : (k : ConnKey) (f : Flags) (p : Packet) → Emits e k f p → MayAnswer e.ask

-- a reply that gives, takes, handles and emits nothing
record IsVoid (reply : HubReply) : Type 0 where
  pub given : was_given reply ≡ false
  pub handles : was_handled reply ≡ false
  pub parcels : parcels_in reply ≡ []
  pub none : datagrams_of reply ≡ []
  pub still : ticks_by reply ≡ 0

and_off : (a b : Bool) → b ≡ false → (a && b) ≡ false
and_off true b off = off
and_off false b off = refl

cond_same : {A : Type 0} (a : Bool) (l : List A) → l ≡ [] → cond a l [] ≡ []
cond_same true l none = none
cond_same false l none = refl

cond_off : {A : Type 0} (a : Bool) (l : List A) → a ≡ false → cond a l [] ≡ []
cond_off true l off = absurd (flag_of_true true refl off)
cond_off false l off = refl

void_puts : (k : ConnKey) (ask : HubAsk) (reply : HubReply) → IsVoid reply → chunk_put k ask reply ≡ []
void_puts k (Begin query ends) reply void = refl
void_puts k (Put key chunk) reply void = cond_off (key_eq key k && was_given reply) (chunk ∷ []) (and_off (key_eq key k) (was_given reply) void.given)
void_puts k (Finish key) reply void = refl
void_puts k (Take query motion) reply void = refl
void_puts k (TakeFrom key) reply void = refl
void_puts k (Halt key) reply void = refl
void_puts k (Arrive d) reply void = refl
void_puts k Tick reply void = refl
void_puts k (Clear query) reply void = refl
void_puts k (Leave query) reply void = refl

void_finishes : (k : ConnKey) (ask : HubAsk) (reply : HubReply) → IsVoid reply → is_finish k ask reply ≡ false
void_finishes k (Begin query ends) reply void = refl
void_finishes k (Put key chunk) reply void = refl
void_finishes k (Finish key) reply void = and_off (key_eq key k) (was_given reply) void.given
void_finishes k (Take query motion) reply void = refl
void_finishes k (TakeFrom key) reply void = refl
void_finishes k (Halt key) reply void = refl
void_finishes k (Arrive d) reply void = refl
void_finishes k Tick reply void = refl
void_finishes k (Clear query) reply void = refl
void_finishes k (Leave query) reply void = refl

void_hears : (k : ConnKey) (ask : HubAsk) (reply : HubReply) → IsVoid reply → heard_by k ask reply ≡ []
void_hears k (Begin query ends) reply void = refl
void_hears k (Put key chunk) reply void = refl
void_hears k (Finish key) reply void = refl
void_hears k (Take query motion) reply void = refl
void_hears k (TakeFrom key) reply void = refl
void_hears k (Halt key) reply void = refl
void_hears k (Arrive d) reply void = cond_off (was_handled reply) (answer_in k d) void.handles
void_hears k Tick reply void = refl
void_hears k (Clear query) reply void = refl
void_hears k (Leave query) reply void = refl

void_takes : (k : ConnKey) (ask : HubAsk) (reply : HubReply) → IsVoid reply → parcel_for k ask reply ≡ []
void_takes k (Begin query ends) reply void = refl
void_takes k (Put key chunk) reply void = refl
void_takes k (Finish key) reply void = refl
void_takes k (Take query motion) reply void = cond_same ((query == k.query) && (motion == k.motion)) (parcels_from k.from (parcels_in reply)) (ap (parcels_from k.from) void.parcels)
void_takes k (TakeFrom key) reply void = cond_same (key_eq key k) (parcels_in reply) void.parcels
void_takes k (Halt key) reply void = refl
void_takes k (Arrive d) reply void = refl
void_takes k Tick reply void = refl
void_takes k (Clear query) reply void = refl
void_takes k (Leave query) reply void = refl

void_stores : (k : ConnKey) (ask : HubAsk) (reply : HubReply) → IsVoid reply → stored_by k ask reply ≡ []
void_stores k (Begin query ends) reply void = refl
void_stores k (Put key chunk) reply void = refl
void_stores k (Finish key) reply void = refl
void_stores k (Take query motion) reply void = refl
void_stores k (TakeFrom key) reply void = refl
void_stores k (Halt key) reply void = refl
void_stores k (Arrive d) reply void = cond_off (list_any datagram_tells_stored (datagrams_of reply)) (rows_in k d) (ap (list_any datagram_tells_stored) void.none)
void_stores k Tick reply void = refl
void_stores k (Clear query) reply void = refl
void_stores k (Leave query) reply void = refl

void_halts : (k : ConnKey) (ask : HubAsk) (reply : HubReply) → IsVoid reply → is_halt k ask reply ≡ false
void_halts k (Begin query ends) reply void = refl
void_halts k (Put key chunk) reply void = refl
void_halts k (Finish key) reply void = refl
void_halts k (Take query motion) reply void = refl
void_halts k (TakeFrom key) reply void = refl
void_halts k (Halt key) reply void = and_off (key_eq key k) (was_given reply) void.given
void_halts k (Arrive d) reply void = refl
void_halts k Tick reply void = refl
void_halts k (Clear query) reply void = refl
void_halts k (Leave query) reply void = refl

void_quiet : (h : List Entry) (e : Entry) → IsVoid e.reply → IsQuiet h e
void_quiet h e void = record {
  nothing = λ k. record {
    puts_none = void_puts k e.ask e.reply void;
    finishes_none = void_finishes k e.ask e.reply void;
    hears_none = void_hears k e.ask e.reply void;
    rows = ap (flat_map (rows_in k)) void.none;
    queries = ap (flat_map (queries_in k)) void.none;
  };
  still = void.still;
  takes_none = λ k. void_takes k e.ask e.reply void;
  stores_none = λ k. void_stores k e.ask e.reply void;
  halts_none = λ k. void_halts k e.ask e.reply void;
  turned = λ k f p w. absurd (Contains-none w.datagram (subst (λ l. Contains l w.datagram) void.none w.stands));
  may = λ k f p w. absurd (Contains-none w.datagram (subst (λ l. Contains l w.datagram) void.none w.stands));
}

void_by : (h : List Entry) (e : Entry) (reply : HubReply) → e.reply ≡ reply → IsVoid reply → IsQuiet h e
void_by h e reply is void = void_quiet h e (subst IsVoid (sym is) void)

-- ---- a datagram that is turned back

turned_packet : Header → Flags → Packet
turned_packet head flags = record { head = turned_header head flags; body = [] }

turned_reads : (place : Place) (d : Datagram) (head : Header) (flags : Flags) → Heads (turned_header head flags) [] (turned_back place d head flags).bytes
    → packet_of (turned_back place d head flags) ≡ Some (record { head = turned_header head flags; body = [] })
unfolding packet_of
turned_reads place d head flags spelled = ap packet_read (reads_spelled (turned_header head flags) [] (turned_back place d head flags).bytes spelled)

turned_quiet : (place : Place) (h : List Entry) (e : Entry) (d : Datagram) (p : Packet) (flags : Flags) → e.ask ≡ Arrive d → packet_of d ≡ Some p → goes_forth p.head.flags ≡ true
    → goes_forth flags ≡ false → tells_stored flags ≡ false → (flags ≡ Nak) ⊎ ((flags ≡ Stop) × IsOld p.head.query h)
    → Heads (turned_header p.head flags) [] (turned_back place d p.head flags).bytes → e.reply ≡ handled (turned_back place d p.head flags) → IsQuiet h e
turned_quiet place h e d p flags ask reads forth back unstored which spelled reply =
    let t = turned_back place d p.head flags in
    let there : packet_of t ≡ Some (record { head = turned_header p.head flags; body = [] }) = turned_reads place d p.head flags spelled in
    subst (IsQuiet h) (sym (entry_is e (Arrive d) (handled t) ask reply)) (record {
      nothing = λ k. record {
        puts_none = refl;
        finishes_none = refl;
        hears_none = answer_not k d p reads (λ key off. flag_of_true (goes_forth p.head.flags) forth off);
        rows = flat_none (rows_in k) (t ∷ []) (λ x at. ap (rows_in k) (Contains-one t x at) ∙ rows_not k t (record { head = turned_header p.head flags; body = [] }) there (λ key on. flag_of_true (goes_forth flags) on back));
        queries = flat_none (queries_in k) (t ∷ []) (λ x at. ap (queries_in k) (Contains-one t x at) ∙ queries_not_of k t (record { head = turned_header p.head flags; body = [] }) there (λ key on. flag_of_true (goes_forth flags) on back));
      };
      still = refl;
      takes_none = λ k. refl;
      stores_none = λ k. cond_off (datagram_tells_stored t || false) (rows_in k d) (ap (λ o. packet_tells_stored o || false) there ∙ ap (λ b. b || false) unstored);
      halts_none = λ k. refl;
      turned = λ k f q w.
          let same : w.datagram ≡ t = Contains-one t w.datagram w.stands in
          let packet : q ≡ record { head = turned_header p.head flags; body = [] } = one_packet t q (record { head = turned_header p.head flags; body = [] }) (ap packet_of (sym same) ∙ w.reads) there in
          let is : f ≡ flags = sym w.flags_are ∙ ap (λ (x : Packet). x.head.flags) packet in
          let query : p.head.query ≡ k.query = ap (λ (x : Packet). x.head.query) (sym packet) ∙ ap (λ (x : ConnKey). x.query) w.key in
          elim which [ inl nak ↦ inl (is ∙ nak) | inr old ↦ inr (is ∙ old.0, subst (λ n. IsOld n h) query old.1) ];
      may = λ k f q w. (p, reads, forth);
    })

-- ---- each of them is quiet

void_begun : (query : ℕ) (h : List Entry) (e : Entry) → AnswersBegin query h e.reply → IsQuiet h e
void_begun query h e (IsOldOne top greatest low is) = void_by h e _ is (record { given = refl; handles = refl; parcels = refl; none = refl; still = refl })
void_begun query h e (IsTwice young live is) = void_by h e _ is (record { given = refl; handles = refl; parcels = refl; none = refl; still = refl })
void_begun query h e (IsNew young dead is) = void_by h e _ is (record { given = refl; handles = refl; parcels = refl; none = refl; still = refl })

void_cleared : (query : ℕ) (h : List Entry) (e : Entry) → AnswersClear query h e.reply → IsQuiet h e
void_cleared query h e (ClearNow ends live clear is) = void_by h e _ is (record { given = refl; handles = refl; parcels = refl; none = refl; still = refl })
void_cleared query h e (NotClear ends live key first refusal names is) = void_by h e _ is (record { given = refl; handles = refl; parcels = refl; none = refl; still = refl })

void_left : (query : ℕ) (h : List Entry) (e : Entry) → AnswersLeave query h e.reply → IsQuiet h e
void_left query h e (LeavesNow ends live clear is) = void_by h e _ is (record { given = refl; handles = refl; parcels = refl; none = refl; still = refl })
void_left query h e (LeftUnclear ends live key first is) = void_by h e _ is (record { given = refl; handles = refl; parcels = refl; none = refl; still = refl })
void_left query h e (LeftNothing dead is) = void_by h e _ is (record { given = refl; handles = refl; parcels = refl; none = refl; still = refl })

pub quiet : (place : Place) (h : List Entry) (e : Entry) → IsNought place h e → IsQuiet h e
quiet place h e (NoMemory asks is) = void_by h e _ is (record { given = refl; handles = refl; parcels = refl; none = refl; still = refl })
quiet place h e (UnknownPut key chunk ask away is) = void_by h e _ is (record { given = refl; handles = refl; parcels = refl; none = refl; still = refl })
quiet place h e (UnknownFinish key ask away is) = void_by h e _ is (record { given = refl; handles = refl; parcels = refl; none = refl; still = refl })
quiet place h e (UnknownHalt key ask away is) = void_by h e _ is (record { given = refl; handles = refl; parcels = refl; none = refl; still = refl })
quiet place h e (UnknownTakeFrom key ask away is) = void_by h e _ is (record { given = refl; handles = refl; parcels = refl; none = refl; still = refl })
quiet place h e (UnknownTake query motion ask away is) = void_by h e _ is (record { given = refl; handles = refl; parcels = refl; none = refl; still = refl })
quiet place h e (RefusedTake query motion ask end there why is answers) = void_by h e _ is (record { given = refl; handles = refl; parcels = refl; none = refl; still = refl })
quiet place h e (Begins query ends ask answers) = void_begun query h e answers
quiet place h e (Clears query ask answers) = void_cleared query h e answers
quiet place h e (Leaves query ask answers) = void_left query h e answers
quiet place h e (Unread d fault ask reads is) = void_by h e _ is (record { given = refl; handles = refl; parcels = refl; none = refl; still = refl })
quiet place h e (Strange d p ask reads foreign is) = void_by h e _ is (record { given = refl; handles = refl; parcels = refl; none = refl; still = refl })
quiet place h e (EndedQuery d p ask reads own dead forth old spelled is) = turned_quiet place h e d p Stop ask reads forth refl refl (inr (refl, old)) spelled is
quiet place h e (UnbegunQuery d p ask reads own dead forth young spelled is) = turned_quiet place h e d p Nak ask reads forth refl refl (inl refl) spelled is
quiet place h e (LateAnswer d p ask reads own dead back is) = void_by h e _ is (record { given = refl; handles = refl; parcels = refl; none = refl; still = refl })
quiet place h e (RefusedTick key seq ask first is) = void_by h e _ is (record { given = refl; handles = refl; parcels = refl; none = refl; still = refl })

-- ---- what it is asked

-- the ask of an entry of no end
abbrev pub ask_in : (place : Place) (h : List Entry) (e : Entry) → IsNought place h e → HubAsk
ask_in place h e (NoMemory asks is) = e.ask
ask_in place h e (UnknownPut key chunk ask away is) = Put key chunk
ask_in place h e (UnknownFinish key ask away is) = Finish key
ask_in place h e (UnknownHalt key ask away is) = Halt key
ask_in place h e (UnknownTakeFrom key ask away is) = TakeFrom key
ask_in place h e (UnknownTake query motion ask away is) = Take query motion
ask_in place h e (RefusedTake query motion ask end there why is answers) = Take query motion
ask_in place h e (Begins query ends ask answers) = Begin query ends
ask_in place h e (Clears query ask answers) = Clear query
ask_in place h e (Leaves query ask answers) = Leave query
ask_in place h e (Unread d fault ask fails is) = Arrive d
ask_in place h e (Strange d p ask reads foreign is) = Arrive d
ask_in place h e (EndedQuery d p ask reads own dead forth old spelled is) = Arrive d
ask_in place h e (UnbegunQuery d p ask reads own dead forth young spelled is) = Arrive d
ask_in place h e (LateAnswer d p ask reads own dead back is) = Arrive d
ask_in place h e (RefusedTick key seq ask first is) = Tick

pub ask_is : (place : Place) (h : List Entry) (e : Entry) (n : IsNought place h e) → e.ask ≡ ask_in place h e n
ask_is place h e (NoMemory asks is) = refl
ask_is place h e (UnknownPut key chunk ask away is) = ask
ask_is place h e (UnknownFinish key ask away is) = ask
ask_is place h e (UnknownHalt key ask away is) = ask
ask_is place h e (UnknownTakeFrom key ask away is) = ask
ask_is place h e (UnknownTake query motion ask away is) = ask
ask_is place h e (RefusedTake query motion ask end there why is answers) = ask
ask_is place h e (Begins query ends ask answers) = ask
ask_is place h e (Clears query ask answers) = ask
ask_is place h e (Leaves query ask answers) = ask
ask_is place h e (Unread d fault ask fails is) = ask
ask_is place h e (Strange d p ask reads foreign is) = ask
ask_is place h e (EndedQuery d p ask reads own dead forth old spelled is) = ask
ask_is place h e (UnbegunQuery d p ask reads own dead forth young spelled is) = ask
ask_is place h e (LateAnswer d p ask reads own dead back is) = ask
ask_is place h e (RefusedTick key seq ask first is) = ask

-- ---- ends that are here

-- a datagram on an end that is here isn't foreign
pub not_foreign : (place : Place) (h : List Entry) (d : Datagram) (head : Header) (end : ConnEnd) → IsHere end h → IsOurs place end → key_of head ≡ end.key → end.sending ≡ not (goes_forth head.flags)
    → IsDirected (goes_forth head.flags) d end.key → IsForeign place h d head → ⊥
not_foreign place h d head end here ours key side directed (NoSegment apart) =
    apart (subst IsSegment (ap (λ (k : ConnKey). k.from) (sym key)) ours.from, subst IsSegment (ap (λ (k : ConnKey). k.to) (sym key)) ours.to)
not_foreign place h d head end here ours key side directed (NotHere apart) = apart (by (goes_forth head.flags) side directed)
  where
    by : (b : Bool) → end.sending ≡ not b → IsDirected b d end.key → d.to ≡ place.at
    by true receives way = way.1 ∙ ours.receives_here receives
    by false sends way = way.1 ∙ ours.sends_here sends
not_foreign place h d head end here ours key side directed (Misdirected apart) = apart (subst (IsDirected (goes_forth head.flags) d) (sym key) directed)
not_foreign place h d head end here ours key side directed (OtherSession apart) = apart (ap (λ (k : ConnKey). k.session) key ∙ ours.session)
not_foreign place h d head end here ours key side directed (NoSuchKey live apart) = apart end here (sym key)

-- an end that is here has a live query
live_by : (h : List Entry) (head : Header) (end : ConnEnd) → IsHere end h → key_of head ≡ end.key → IsLiveQuery head.query h
live_by h head end here key = subst (λ n. IsLiveQuery n h) (ap (λ (k : ConnKey). k.query) (sym key)) (here.ends, here.live)

-- what comes for an end that is here isn't of no end
pub record Reaches (place : Place) (h : List Entry) (d : Datagram) (p : Packet) : Type 0 where
  pub own : IsForeign place h d p.head → ⊥
  pub live : IsLiveQuery p.head.query h

reaches : (place : Place) (h : List Entry) (d : Datagram) (p : Packet) (end : ConnEnd) (forth : Bool) → IsHere end h → IsOurs place end → key_of p.head ≡ end.key → goes_forth p.head.flags ≡ forth
    → end.sending ≡ not forth → IsDirected forth d end.key → Reaches place h d p
reaches place h d p end forth here ours key way side directed = record {
  own = not_foreign place h d p.head end here ours key (side ∙ ap not (sym way)) (subst (λ b. IsDirected b d end.key) (sym way) directed);
  live = live_by h p.head end here key;
}

alive : (place : Place) (h : List Entry) (e : Entry) (d : Datagram) (p : Packet) (x : Datagram) (q : Packet) → e.ask ≡ Arrive x → e.ask ≡ Arrive d → packet_of x ≡ Some q → packet_of d ≡ Some p
    → Reaches place h d p → IsLiveQuery q.head.query h
alive place h e d p x q ask asked reads_x reads r =
    let both : Arrive x ≡ Arrive d = sym ask ∙ asked in
    let same : x ≡ d = cc in
    let packet : q ≡ p = one_packet d q p (ap packet_of (sym same) ∙ reads_x) reads in
    subst (λ (y : Packet). IsLiveQuery y.head.query h) (sym packet) r.live

-- a datagram that reaches an end is in no entry of no end, but for want of memory
unreached : (place : Place) (h : List Entry) (e : Entry) (d : Datagram) (p : Packet) → IsNought place h e → e.ask ≡ Arrive d → packet_of d ≡ Some p → Reaches place h d p → e.reply ≡ Memory
unreached place h e d p (NoMemory asks is) asked reads r = is
unreached place h e d p (Unread x fault ask fails is) asked reads r =
    let both : Arrive x ≡ Arrive d = sym ask ∙ asked in
    let same : x ≡ d = cc in
    absurd (unread d p fault (ap (λ (y : Datagram). read_header y.bytes) (sym same) ∙ fails) reads)
unreached place h e d p (Strange x q ask reads_x foreign is) asked reads r =
    let both : Arrive x ≡ Arrive d = sym ask ∙ asked in
    let same : x ≡ d = cc in
    let packet : q ≡ p = one_packet d q p (ap packet_of (sym same) ∙ reads_x) reads in
    absurd (r.own (subst (λ (y : Datagram). IsForeign place h y p.head) same (subst (λ (y : Packet). IsForeign place h x y.head) packet foreign)))
unreached place h e d p (EndedQuery x q ask reads_x own dead forth old spelled is) asked reads r = absurd (dead (alive place h e d p x q ask asked reads_x reads r))
unreached place h e d p (UnbegunQuery x q ask reads_x own dead forth young spelled is) asked reads r = absurd (dead (alive place h e d p x q ask asked reads_x reads r))
unreached place h e d p (LateAnswer x q ask reads_x own dead back is) asked reads r = absurd (dead (alive place h e d p x q ask asked reads_x reads r))
unreached place h e d p n asked reads r = let bad : ask_in place h e n ≡ Arrive d = sym (ask_is place h e n) ∙ asked in cc

-- what is asked of an end that is here isn't refused as unknown
unasked_put : (place : Place) (h : List Entry) (e : Entry) (end : ConnEnd) (chunk : List ℕ) → IsNought place h e → end.sending ≡ true → IsHere end h → e.ask ≡ Put end.key chunk → e.reply ≡ Memory
unasked_put place h e end chunk (NoMemory asks is) sends here asked = is
unasked_put place h e end chunk (UnknownPut key other ask away is) sends here asked = let both : Put key other ≡ Put end.key chunk = sym ask ∙ asked in let same : key ≡ end.key = cc in absurd (away end here (sym same) sends)
unasked_put place h e end chunk n sends here asked = let bad : ask_in place h e n ≡ Put end.key chunk = sym (ask_is place h e n) ∙ asked in cc

unasked_finish : (place : Place) (h : List Entry) (e : Entry) (end : ConnEnd) → IsNought place h e → end.sending ≡ true → IsHere end h → e.ask ≡ Finish end.key → e.reply ≡ Memory
unasked_finish place h e end (NoMemory asks is) sends here asked = is
unasked_finish place h e end (UnknownFinish key ask away is) sends here asked = let both : Finish key ≡ Finish end.key = sym ask ∙ asked in let same : key ≡ end.key = cc in absurd (away end here (sym same) sends)
unasked_finish place h e end n sends here asked = let bad : ask_in place h e n ≡ Finish end.key = sym (ask_is place h e n) ∙ asked in cc

unasked_halt : (place : Place) (h : List Entry) (e : Entry) (end : ConnEnd) → IsNought place h e → end.sending ≡ false → IsHere end h → e.ask ≡ Halt end.key → e.reply ≡ Memory
unasked_halt place h e end (NoMemory asks is) receives here asked = is
unasked_halt place h e end (UnknownHalt key ask away is) receives here asked = let both : Halt key ≡ Halt end.key = sym ask ∙ asked in let same : key ≡ end.key = cc in absurd (away end here (sym same) receives)
unasked_halt place h e end n receives here asked = let bad : ask_in place h e n ≡ Halt end.key = sym (ask_is place h e n) ∙ asked in cc

unasked_take : (place : Place) (h : List Entry) (e : Entry) (end : ConnEnd) → IsNought place h e → end.sending ≡ false → IsHere end h → e.ask ≡ TakeFrom end.key → e.reply ≡ Memory
unasked_take place h e end (NoMemory asks is) receives here asked = is
unasked_take place h e end (UnknownTakeFrom key ask away is) receives here asked = let both : TakeFrom key ≡ TakeFrom end.key = sym ask ∙ asked in let same : key ≡ end.key = cc in absurd (away end here (sym same) receives)
unasked_take place h e end n receives here asked = let bad : ask_in place h e n ≡ TakeFrom end.key = sym (ask_is place h e n) ∙ asked in cc

-- ---- the law

sending_passes : (place : Place) (h : List Entry) (e : Entry) (end : ConnEnd) → IsNought place h e → IsOurs place end → end.sending ≡ true → PassesSending end h e
sending_passes place h e end is ours sends =
    let q = quiet place h e is in
    passes end h e (record {
      nothing = q.nothing end.key;
      still = q.still;
      put = λ here chunk asked. unasked_put place h e end chunk is sends here asked;
      finish = λ here asked. unasked_finish place h e end is sends here asked;
      heard = λ here d p asked directed reads back key. unreached place h e d p is asked reads (reaches place h d p end false here ours key back sends directed);
    })

-- where a Stop is for an old query, it was asked for
pub stops : (h : List Entry) (e : Entry) (k : ConnKey) → IsQuiet h e → StopsAsked k (h ++ e ∷ []) e
stops h e k q p w = elim (q.turned k Stop p w) [
  | inl bad ↦ absurd (let apart : Stop ≡ Nak = bad in cc)
  | inr old ↦ inr (old.1.0, subst (λ l. Contains l old.1.0) (sym (left_of-push h e)) (Contains-append_left (left_of h) (leaves e) old.1.0 old.1.1), old.1.2)
]

-- and no other answer is emitted
pub answers_none : (h : List Entry) (e : Entry) (k : ConnKey) (f : Flags) (p : Packet) → IsQuiet h e → f ≢ Nak → f ≢ Stop → Emits e k f p → ⊥
answers_none h e k f p q other another w = elim (q.turned k f p w) [ inl is ↦ other is | inr is ↦ another is.0 ]

pub tells_none : (h : List Entry) (e : Entry) (k : ConnKey) → IsQuiet h e → TellsNone k e
tells_none h e k q = record {
  ack = λ p w. answers_none h e k Ack p q (λ bad. cc) (λ bad. cc) w;
  duplicate = λ p w. answers_none h e k Duplicate p q (λ bad. cc) (λ bad. cc) w;
  disorder = λ p w. answers_none h e k Disorder p q (λ bad. cc) (λ bad. cc) w;
}

receiving_passes : (place : Place) (h : List Entry) (e : Entry) (end : ConnEnd) → IsNought place h e → IsOurs place end → end.sending ≡ false → IsSilentReceiving end h e
receiving_passes place h e end is ours receives =
    let q = quiet place h e is in
    let none = tells_none h e end.key q in
    record {
      takes_none = q.takes_none end.key;
      stores_none = q.stores_none end.key;
      halts_none = q.halts_none end.key;
      ack = none.ack;
      duplicate = none.duplicate;
      disorder = none.disorder;
      stop = stops h e end.key q;
      rows = λ here d x asked directed reads.
          let w = rows_in-reads end.key d x (subst (λ l. Contains l x) (sym reads) (Contains-head x [])) in
          unreached place h e d w.packet is asked w.reads (reaches place h d w.packet end true here ours w.key (rows_go_forth w.packet.head.flags w.rows) receives directed);
      query = λ here d p asked directed reads key flags. unreached place h e d p is asked reads (reaches place h d p end true here ours key (ap goes_forth flags) receives directed);
      take_from = λ here asked. unasked_take place h e end is receives here asked;
      halt = λ here asked. unasked_halt place h e end is receives here asked;
    }

pub nought_passes : NoughtPasses
nought_passes place h e end is ours = (sending_passes place h e end is ours, receiving_passes place h e end is ours)
