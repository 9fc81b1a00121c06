-- An entry of no end has the points of a hub.
use Rattle.std.proofs.Common.{◌≡◌, ◌≢◌, ℕ, List, [], ◌∷◌, true, false, Some, Err, refl, ap, sym, ◌∙◌, subst, inl, inr}
use Rattle.std.specs.List.{Contains}
use Rattle.ic_base.specs.declared.keys.ConnKey.{ConnKey}
use Rattle.ic_base.specs.declared.keys.ConnEnd.{ConnEnd}
use Rattle.ic_base.specs.declared.datagram.Datagram.{Datagram}
use Rattle.ic_header.specs.declared.fault.HeaderFault.{HeaderFault}
use Rattle.ic_header.specs.declared.flags.Flags.{Flags}
use Rattle.ic_header.specs.Reading.{read_header}
use Rattle.ic_law.specs.declared.history.HubAsk.{HubAsk}
use Rattle.ic_law.specs.declared.history.HubAsk.TheVariants.{Begin, Put, Finish, Take, TakeFrom, Halt, Arrive, Tick, Clear, Leave}
use Rattle.ic_law.specs.declared.history.HubReply.{HubReply}
use Rattle.ic_law.specs.declared.history.HubReply.TheVariants.{Gave, Took, Came, Ticked, Left, Memory}
use Rattle.ic_law.specs.declared.history.Arrived.TheVariants.{Dropped}
use Rattle.ic_law.specs.declared.history.DropCause.TheVariants as cause
use Rattle.ic_law.specs.declared.history.LeaveNo.TheVariants as leave
use Rattle.ic_law.specs.declared.history.TickNo.{TickNo}
use Rattle.ic_law.specs.declared.history.TickNo.TheVariants.{Spent}
use Rattle.ic_law.specs.declared.history.Entry.{Entry}
use Rattle.ic_header.specs.Packets.{Packet, packet_of, goes_forth}
use Rattle.ic_law.specs.Queries.{was_left}
use Rattle.ic_law.specs.Points.{Place, Emits, IsLive, IsHere, IsClear}
use Rattle.ic_law.specs.Arriving.{Arrives, Stranger, OfEnded, OfNotBegun, TooLate, IsUnknownKey, IsOfMotion, unknown, AnswersTakeAny, AnswersBegin, IsOldOne}
use Rattle.ic_law.specs.Arriving.{IsTwice, IsNew, AnswersClear, ClearNow, NotClear, AnswersLeave, LeavesNow, LeftUnclear, LeftNothing}
use Rattle.ic_law.specs.Spending.{IsFirstSpent}
use Rattle.ic_law.specs.Hub.{HubLaw, IsReplyTo, kind_asked, kind_replied}
use Rattle.ic_hub_laws.specs.Entries.{IsNought, NoMemory, UnknownPut, UnknownFinish, UnknownHalt, UnknownTakeFrom, UnknownTake, RefusedTake, Begins, Clears}
use Rattle.ic_hub_laws.specs.Entries.{Leaves, Unread, Strange, EndedQuery, UnbegunQuery, LateAnswer, RefusedTick}
use Rattle.ic_hub_laws.specs.Laws.{NoughtPoint}
use Rattle.ic_law.proofs.Datagrams.{flag_of_true, one_packet}
use Rattle.ic_hub_laws.proofs.Telling.{unread}
use Rattle.ic_hub_laws.proofs.Nought.{IsQuiet, quiet, ask_in, ask_is, stops, tells_none}
use Rattle.ic_law.proofs.Lives.{live_once}
use Rattle.ic_hub_laws.proofs.Whole.{same_whole, sends_whole, same_stays, sends_stay}
use Rattle.ic_hub_laws.proofs.ConcernedPoints.{tick_asked}

-- ---- replies are of their asks

kinds : (e : Entry) (ask : HubAsk) (reply : HubReply) → e.ask ≡ ask → e.reply ≡ reply → kind_replied reply ≡ kind_asked ask → IsReplyTo e.ask e.reply
kinds e ask reply a r same = inr (ap kind_replied r ∙ same ∙ sym (ap kind_asked a))

replied_begin : (query : ℕ) (ends : List ConnEnd) (h : List Entry) (e : Entry) → e.ask ≡ Begin query ends → AnswersBegin query h e.reply → IsReplyTo e.ask e.reply
replied_begin query ends h e ask (IsOldOne top greatest low is) = kinds e _ _ ask is refl
replied_begin query ends h e ask (IsTwice young live is) = kinds e _ _ ask is refl
replied_begin query ends h e ask (IsNew young dead is) = kinds e _ _ ask is refl

replied_clear : (query : ℕ) (h : List Entry) (e : Entry) → e.ask ≡ Clear query → AnswersClear query h e.reply → IsReplyTo e.ask e.reply
replied_clear query h e ask (ClearNow ends live clear is) = kinds e _ _ ask is refl
replied_clear query h e ask (NotClear ends live key first refusal names is) = kinds e _ _ ask is refl

replied_leave : (query : ℕ) (h : List Entry) (e : Entry) → e.ask ≡ Leave query → AnswersLeave query h e.reply → IsReplyTo e.ask e.reply
replied_leave query h e ask (LeavesNow ends live clear is) = kinds e _ _ ask is refl
replied_leave query h e ask (LeftUnclear ends live key first is) = kinds e _ _ ask is refl
replied_leave query h e ask (LeftNothing dead is) = kinds e _ _ ask is refl

replied : (place : Place) (h : List Entry) (e : Entry) → IsNought place h e → IsReplyTo e.ask e.reply
replied place h e (NoMemory asks is) = inl is
replied place h e (UnknownPut key chunk ask away is) = kinds e _ _ ask is refl
replied place h e (UnknownFinish key ask away is) = kinds e _ _ ask is refl
replied place h e (UnknownHalt key ask away is) = kinds e _ _ ask is refl
replied place h e (UnknownTakeFrom key ask away is) = kinds e _ _ ask is refl
replied place h e (UnknownTake query motion ask away is) = kinds e _ _ ask is refl
replied place h e (RefusedTake query motion ask end there why is answers) = kinds e _ _ ask is refl
replied place h e (Begins query ends ask answers) = replied_begin query ends h e ask answers
replied place h e (Clears query ask answers) = replied_clear query h e ask answers
replied place h e (Leaves query ask answers) = replied_leave query h e ask answers
replied place h e (Unread d fault ask fails is) = kinds e _ _ ask is refl
replied place h e (Strange d p ask reads foreign is) = kinds e _ _ ask is refl
replied place h e (EndedQuery d p ask reads own dead forth old spelled is) = kinds e _ _ ask is refl
replied place h e (UnbegunQuery d p ask reads own dead forth young spelled is) = kinds e _ _ ask is refl
replied place h e (LateAnswer d p ask reads own dead back is) = kinds e _ _ ask is refl
replied place h e (RefusedTick key seq ask first is) = kinds e _ _ ask is refl

-- ---- what goes forth

-- nothing does
forth_none : (h : List Entry) (e : Entry) (k : ConnKey) (flags : Flags) (p : Packet) → IsQuiet h e → goes_forth flags ≡ true → Emits e k flags p → ⊥
forth_none h e k flags p q forth w = flag_of_true (goes_forth flags) forth (elim (q.turned k flags p w) [ inl is ↦ ap goes_forth is | inr is ↦ ap goes_forth is.0 ])

-- ---- asks on what isn't here

known_put : (place : Place) (h : List Entry) (e : Entry) (n : IsNought place h e) (key : ConnKey) (chunk : List ℕ) → e.ask ≡ Put key chunk → IsUnknownKey true key h → e.reply ≢ Memory → e.reply ≡ Gave (Err (unknown key.query key.motion))
known_put place h e (NoMemory asks is) key chunk asked away given = absurd (given is)
known_put place h e (UnknownPut other bytes ask there is) key chunk asked away given =
    let both : Put other bytes ≡ Put key chunk = sym ask ∙ asked in
    let same : other ≡ key = cc in
    is ∙ ap (λ (x : ConnKey). Gave (Err (unknown x.query x.motion))) same
known_put place h e n key chunk asked away given = let bad : ask_in place h e n ≡ Put key chunk = sym (ask_is place h e n) ∙ asked in cc

known_finish : (place : Place) (h : List Entry) (e : Entry) (n : IsNought place h e) (key : ConnKey) → e.ask ≡ Finish key → IsUnknownKey true key h → e.reply ≢ Memory → e.reply ≡ Gave (Err (unknown key.query key.motion))
known_finish place h e (NoMemory asks is) key asked away given = absurd (given is)
known_finish place h e (UnknownFinish other ask there is) key asked away given =
    let both : Finish other ≡ Finish key = sym ask ∙ asked in
    let same : other ≡ key = cc in
    is ∙ ap (λ (x : ConnKey). Gave (Err (unknown x.query x.motion))) same
known_finish place h e n key asked away given = let bad : ask_in place h e n ≡ Finish key = sym (ask_is place h e n) ∙ asked in cc

known_halt : (place : Place) (h : List Entry) (e : Entry) (n : IsNought place h e) (key : ConnKey) → e.ask ≡ Halt key → IsUnknownKey false key h → e.reply ≢ Memory → e.reply ≡ Gave (Err (unknown key.query key.motion))
known_halt place h e (NoMemory asks is) key asked away given = absurd (given is)
known_halt place h e (UnknownHalt other ask there is) key asked away given =
    let both : Halt other ≡ Halt key = sym ask ∙ asked in
    let same : other ≡ key = cc in
    is ∙ ap (λ (x : ConnKey). Gave (Err (unknown x.query x.motion))) same
known_halt place h e n key asked away given = let bad : ask_in place h e n ≡ Halt key = sym (ask_is place h e n) ∙ asked in cc

known_take_from : (place : Place) (h : List Entry) (e : Entry) (n : IsNought place h e) (key : ConnKey) → e.ask ≡ TakeFrom key → IsUnknownKey false key h → e.reply ≢ Memory
    → e.reply ≡ Took (Err (unknown key.query key.motion))
known_take_from place h e (NoMemory asks is) key asked away given = absurd (given is)
known_take_from place h e (UnknownTakeFrom other ask there is) key asked away given =
    let both : TakeFrom other ≡ TakeFrom key = sym ask ∙ asked in
    let same : other ≡ key = cc in
    is ∙ ap (λ (x : ConnKey). Took (Err (unknown x.query x.motion))) same
known_take_from place h e n key asked away given = let bad : ask_in place h e n ≡ TakeFrom key = sym (ask_is place h e n) ∙ asked in cc

known_take : (place : Place) (h : List Entry) (e : Entry) (n : IsNought place h e) (query motion : ℕ) → e.ask ≡ Take query motion → ((end : ConnEnd) → IsOfMotion query motion end h → ⊥) → e.reply ≢ Memory
    → e.reply ≡ Took (Err (unknown query motion))
known_take place h e (NoMemory asks is) query motion asked away given = absurd (given is)
known_take place h e (UnknownTake q m ask there is) query motion asked away given =
    let both : Take q m ≡ Take query motion = sym ask ∙ asked in
    let a : q ≡ query = cc in
    let b : m ≡ motion = cc in
    is ∙ ap (λ x. Took (Err (unknown x m))) a ∙ ap (λ x. Took (Err (unknown query x))) b
known_take place h e (RefusedTake q m ask end there why is answers) query motion asked away given =
    let both : Take q m ≡ Take query motion = sym ask ∙ asked in
    let a : q ≡ query = cc in
    let b : m ≡ motion = cc in
    absurd (away end (subst (λ x. IsOfMotion query x end h) b (subst (λ x. IsOfMotion x m end h) a there)))
known_take place h e n query motion asked away given = let bad : ask_in place h e n ≡ Take query motion = sym (ask_is place h e n) ∙ asked in cc

-- ---- takes, and asks of queries

take_by : (place : Place) (h : List Entry) (e : Entry) (n : IsNought place h e) (query motion : ℕ) → e.ask ≡ Take query motion → (end : ConnEnd) → IsOfMotion query motion end h → e.reply ≢ Memory → AnswersTakeAny query motion h e.reply
take_by place h e (NoMemory asks is) query motion asked end there given = absurd (given is)
take_by place h e (UnknownTake q m ask away is) query motion asked end there given =
    let both : Take q m ≡ Take query motion = sym ask ∙ asked in
    let a : q ≡ query = cc in
    let b : m ≡ motion = cc in
    absurd (away end (subst (λ x. IsOfMotion q x end h) (sym b) (subst (λ x. IsOfMotion x motion end h) (sym a) there)))
take_by place h e (RefusedTake q m ask one at why is answers) query motion asked end there given =
    let both : Take q m ≡ Take query motion = sym ask ∙ asked in
    let a : q ≡ query = cc in
    let b : m ≡ motion = cc in
    subst (λ x. AnswersTakeAny query x h e.reply) b (subst (λ x. AnswersTakeAny x m h e.reply) a answers)
take_by place h e n query motion asked end there given = let bad : ask_in place h e n ≡ Take query motion = sym (ask_is place h e n) ∙ asked in cc

begin_by : (place : Place) (h : List Entry) (e : Entry) (n : IsNought place h e) (query : ℕ) (ends : List ConnEnd) → e.ask ≡ Begin query ends → e.reply ≢ Memory → AnswersBegin query h e.reply
begin_by place h e (NoMemory asks is) query ends asked given = absurd (given is)
begin_by place h e (Begins q others ask answers) query ends asked given =
    let both : Begin q others ≡ Begin query ends = sym ask ∙ asked in
    let same : q ≡ query = cc in
    subst (λ x. AnswersBegin x h e.reply) same answers
begin_by place h e n query ends asked given = let bad : ask_in place h e n ≡ Begin query ends = sym (ask_is place h e n) ∙ asked in cc

clear_by : (place : Place) (h : List Entry) (e : Entry) (n : IsNought place h e) (query : ℕ) → e.ask ≡ Clear query → AnswersClear query h e.reply
clear_by place h e (NoMemory asks is) query asked = absurd (asks query asked)
clear_by place h e (Clears q ask answers) query asked =
    let both : Clear q ≡ Clear query = sym ask ∙ asked in
    let same : q ≡ query = cc in
    subst (λ x. AnswersClear x h e.reply) same answers
clear_by place h e n query asked = let bad : ask_in place h e n ≡ Clear query = sym (ask_is place h e n) ∙ asked in cc

leave_by : (place : Place) (h : List Entry) (e : Entry) (n : IsNought place h e) (query : ℕ) → e.ask ≡ Leave query → e.reply ≢ Memory → AnswersLeave query h e.reply
leave_by place h e (NoMemory asks is) query asked given = absurd (given is)
leave_by place h e (Leaves q ask answers) query asked given =
    let both : Leave q ≡ Leave query = sym ask ∙ asked in
    let same : q ≡ query = cc in
    subst (λ x. AnswersLeave x h e.reply) same answers
leave_by place h e n query asked given = let bad : ask_in place h e n ≡ Leave query = sym (ask_is place h e n) ∙ asked in cc

-- what is left is clear
left_clear : (place : Place) (h : List Entry) (query : ℕ) (reply : HubReply) → HubLaw place h → AnswersLeave query h reply → was_left reply ≡ true → (end : ConnEnd) → IsHere end h → end.key.query ≡ query → IsClear end h
left_clear place h query reply law (LeavesNow ends live clear is) left end here same =
    let ends_are : here.ends ≡ ends = live_once place h query here.ends ends law (subst (λ x. IsLive x here.ends h) same here.live) live in
    clear end (subst (λ l. Contains l end) ends_are here.stands)
left_clear place h query reply law (LeftUnclear ends live key first is) left end here same = let bad : was_left (Left (Err (leave.Unclear key))) ≡ true = ap was_left (sym is) ∙ left in cc
left_clear place h query reply law (LeftNothing dead is) left end here same = let bad : was_left (Left (Err leave.NotLive)) ≡ true = ap was_left (sym is) ∙ left in cc

was_given_left : (reply : HubReply) → was_left reply ≡ true → reply ≢ Memory
was_given_left reply left memory = let bad : was_left Memory ≡ true = ap was_left (sym memory) ∙ left in cc

-- ---- ticks

tick_by : (place : Place) (h : List Entry) (e : Entry) (n : IsNought place h e) (refusal : TickNo) → e.ask ≡ Tick → e.reply ≡ Ticked (Err refusal)
    → (key : ConnKey) × (seq : ℕ) × IsFirstSpent place.settings h key seq × (refusal ≡ Spent key seq place.settings.retries)
tick_by place h e (NoMemory asks is) refusal asked refused = let bad : Memory ≡ Ticked (Err refusal) = sym is ∙ refused in cc
tick_by place h e (RefusedTick key seq ask first is) refusal asked refused =
    let both : Ticked (Err refusal) ≡ Ticked (Err (Spent key seq place.settings.retries)) = sym refused ∙ is in
    let same : refusal ≡ Spent key seq place.settings.retries = cc in
    (key, seq, first, same)
tick_by place h e n refusal asked refused = let bad : ask_in place h e n ≡ Tick = sym (ask_is place h e n) ∙ asked in cc

-- ---- arrivals

-- the datagram of an ask is one, and so is its packet
arrives_at : (place : Place) (h : List Entry) (e : Entry) (x d : Datagram) (q p : Packet) → e.ask ≡ Arrive x → e.ask ≡ Arrive d → packet_of x ≡ Some q → packet_of d ≡ Some p → Arrives place h x q e.reply → Arrives place h d p e.reply
arrives_at place h e x d q p ask asked reads_x reads at =
    let both : Arrive x ≡ Arrive d = sym ask ∙ asked in
    let same : x ≡ d = cc in
    let packet : q ≡ p = one_packet d q p (ap packet_of (sym same) ∙ reads_x) reads in
    subst (λ y. Arrives place h d y e.reply) packet (subst (λ y. Arrives place h y q e.reply) same at)

arrived_by : (place : Place) (h : List Entry) (e : Entry) (n : IsNought place h e) (d : Datagram) (p : Packet) → e.ask ≡ Arrive d → packet_of d ≡ Some p → e.reply ≢ Memory → Arrives place h d p e.reply
arrived_by place h e (NoMemory asks is) d p asked reads given = absurd (given is)
arrived_by place h e (Unread x fault ask fails is) d p asked reads given =
    let both : Arrive x ≡ Arrive d = sym ask ∙ asked in
    let same : x ≡ d = cc in
    absurd (unread d p fault (ap (λ (y : Datagram). read_header y.bytes) (sym same) ∙ fails) reads)
arrived_by place h e (Strange x q ask reads_x foreign is) d p asked reads given = arrives_at place h e x d q p ask asked reads_x reads (Stranger foreign is)
arrived_by place h e (EndedQuery x q ask reads_x own dead forth old spelled is) d p asked reads given = arrives_at place h e x d q p ask asked reads_x reads (OfEnded own dead forth old is)
arrived_by place h e (UnbegunQuery x q ask reads_x own dead forth young spelled is) d p asked reads given = arrives_at place h e x d q p ask asked reads_x reads (OfNotBegun own dead forth young is)
arrived_by place h e (LateAnswer x q ask reads_x own dead back is) d p asked reads given = arrives_at place h e x d q p ask asked reads_x reads (TooLate own dead back is)
arrived_by place h e n d p asked reads given = let bad : ask_in place h e n ≡ Arrive d = sym (ask_is place h e n) ∙ asked in cc

-- a datagram that came reads as a packet
reads_not : (e : Entry) (x d : Datagram) (q : Packet) (fault : HeaderFault) → e.ask ≡ Arrive x → e.ask ≡ Arrive d → packet_of x ≡ Some q → read_header d.bytes ≡ Err fault → ⊥
reads_not e x d q fault ask asked reads fails =
    let both : Arrive x ≡ Arrive d = sym ask ∙ asked in
    let same : x ≡ d = cc in
    unread d q fault fails (ap packet_of (sym same) ∙ reads)

unread_by : (place : Place) (h : List Entry) (e : Entry) (n : IsNought place h e) (d : Datagram) (fault : HeaderFault) → e.ask ≡ Arrive d → read_header d.bytes ≡ Err fault → e.reply ≢ Memory
    → e.reply ≡ Came (Dropped (cause.Header fault)) []
unread_by place h e (NoMemory asks is) d fault asked fails given = absurd (given is)
unread_by place h e (Unread x other ask fails_x is) d fault asked fails given =
    let both : Arrive x ≡ Arrive d = sym ask ∙ asked in
    let same : x ≡ d = cc in
    let results : Err other ≡ Err fault = sym fails_x ∙ ap (λ (y : Datagram). read_header y.bytes) same ∙ fails in
    let faults : other ≡ fault = cc in
    is ∙ ap (λ y. Came (Dropped (cause.Header y)) []) faults
unread_by place h e (Strange x q ask reads foreign is) d fault asked fails given = absurd (reads_not e x d q fault ask asked reads fails)
unread_by place h e (EndedQuery x q ask reads own dead forth old spelled is) d fault asked fails given = absurd (reads_not e x d q fault ask asked reads fails)
unread_by place h e (UnbegunQuery x q ask reads own dead forth young spelled is) d fault asked fails given = absurd (reads_not e x d q fault ask asked reads fails)
unread_by place h e (LateAnswer x q ask reads own dead back is) d fault asked fails given = absurd (reads_not e x d q fault ask asked reads fails)
unread_by place h e n d fault asked fails given = let bad : ask_in place h e n ≡ Arrive d = sym (ask_is place h e n) ∙ asked in cc

-- ---- the law

pub nought_point : NoughtPoint
nought_point place h e n holds =
    let q = quiet place h e n in
    let is = replied place h e n in
    record {
      replied = is;
      allowed = holds.allowed;
      formed = holds.formed;
      same = λ k. same_stays k h e (q.nothing k).rows (same_whole place k h holds.law);
      forth = λ k flags p forth w. absurd (forth_none h e k flags p q forth w);
      back = λ k flags p back w. q.may k flags p w;
      sent = λ k. sends_stay k h e (record { puts_none = (q.nothing k).puts_none; finishes_none = (q.nothing k).finishes_none; rows = (q.nothing k).rows }) (sends_whole place k h holds.law);
      taken = λ k session to p one. absurd (let bad : [] ≡ p ∷ [] = sym (q.takes_none k) ∙ one in cc);
      told = λ k. let none = tells_none h e k q in record { ack = λ p w. absurd (none.ack p w); duplicate = λ p w. absurd (none.duplicate p w); disorder = λ p w. absurd (none.disorder p w) };
      stopped = λ k. stops h e k q;
      cleared = λ query asked left end here same. left_clear place h query e.reply holds.law (leave_by place h e n query asked (was_given_left e.reply left)) left end here same;
      known = record { put = known_put place h e n; finish = known_finish place h e n; halt = known_halt place h e n; take_from = known_take_from place h e n; take = known_take place h e n };
      refused = λ end sends here. (holds.keeps.sending end sends here).refuses here;
      take = take_by place h e n;
      begin = begin_by place h e n;
      clear = λ query asked live. clear_by place h e n query asked;
      leave = leave_by place h e n;
      tick = λ refusal refused. tick_by place h e n refusal (tick_asked e.ask e.reply refusal is refused) refused;
      arrived = arrived_by place h e n;
      unread = unread_by place h e n;
      answered = λ end receives here. (holds.keeps.receiving end receives here).answered here;
    }
