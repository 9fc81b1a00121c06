-- An entry about one end that is here has the points of a hub.
use Rattle.std.proofs.Common.{◌≡◌, ℕ, List, [], ◌∷◌, ◌++◌, Bool, true, false, not, Some, Err, refl, ap, sym, ◌∙◌, subst, inl, inr, ◌⊎◌}
use Rattle.ic_base.specs.declared.keys.ConnKey.{ConnKey}
use Rattle.ic_base.specs.declared.keys.ConnEnd.{ConnEnd}
use Rattle.ic_base.specs.declared.datagram.Datagram.{Datagram}
use Rattle.ic_base.specs.Keys.{key_eq}
use Rattle.ic_base.proofs.SameKeys.{key_eq-tells, Decides-key_eq}
use Rattle.ic_header.specs.declared.flags.Flags.{Flags}
use Rattle.ic_law.specs.declared.history.HubAsk.{HubAsk}
use Rattle.ic_law.specs.declared.history.HubAsk.TheVariants.{Begin, Put, Finish, Take, TakeFrom, Halt, Arrive, Tick, Clear, Leave}
use Rattle.ic_law.specs.declared.history.HubReply.{HubReply}
use Rattle.ic_law.specs.declared.history.HubReply.TheVariants.{Ticked, Memory}
use Rattle.ic_law.specs.declared.history.TickNo.{TickNo}
use Rattle.ic_law.specs.declared.history.Entry.{Entry}
use Rattle.ic_header.specs.Packets.{Packet, packet_of, key_of, goes_forth}
use Rattle.ic_law.specs.Hearing.{IsStopped}
use Rattle.ic_law.specs.Points.{Place, Emits, IsDirected, SameAgain, Sends, TakesNext, Tells, StopsAsked}
use Rattle.ic_law.specs.Receiving.{Receives}
use Rattle.ic_law.specs.Arriving.{Arrives, Known, IsUnknownKey, IsOfMotion}
use Rattle.ic_law.specs.Hub.{IsReplyTo, IsSendingEnd, MayAnswer, kind_asked, kind_replied}
use Rattle.ic_sender.specs.Standing.{KeepsSending}
use Rattle.ic_hub_laws.specs.Entries.{HasEnd, AsksOf, OfPut, OfFinish, OfTakeFrom, OfTake, OfHalt, OfArrive, Concerns}
use Rattle.ic_hub_laws.specs.Laws.{Holds, ConcernedPoint}
use Rattle.ic_law.proofs.Datagrams.{flag_of_true, one_packet}
use Rattle.ic_hub_laws.proofs.Telling.{emits_of, unread}
use Rattle.ic_hub_laws.proofs.Concerned.{nothing_of, still_then, receives_none, answers_none}
use Rattle.ic_hub_laws.proofs.Nought.{not_foreign}
use Rattle.ic_hub_laws.proofs.Whole.{same_whole, sends_whole, same_stays, sends_stay, queries_still, goes_on}

-- ---- the end that the entry is about

bool_same : (a b : Bool) → (a ≡ b) ⊎ (a ≡ b → ⊥)
bool_same true true = inl refl
bool_same true false = inr (λ e. flag_of_true true refl e)
bool_same false true = inr (λ e. flag_of_true true refl (sym e))
bool_same false false = inl refl

-- a connection is the one that the entry is about, with this side, or not
mine : (k c : ConnKey) (side want : Bool) → ((k ≡ c) × (side ≡ want)) ⊎ (k ≡ c → side ≡ want → ⊥)
mine k c side want = by (key_eq k c) refl (bool_same side want)
  where
    by : (b : Bool) → key_eq k c ≡ b → (side ≡ want) ⊎ (side ≡ want → ⊥) → ((k ≡ c) × (side ≡ want)) ⊎ (k ≡ c → side ≡ want → ⊥)
    by true e (inl s) = inl (key_eq-tells k c e, s)
    by true e (inr s) = inr (λ a b. s b)
    by false e s = inr (λ a b. flag_of_true (key_eq k c) ((Decides-key_eq k c).1 a) e)

-- its end keeps the points of a sending end
sends_points : (place : Place) (c k : ConnKey) (side : Bool) (h : List Entry) (e : Entry) (has : HasEnd place c side h) → Holds place h e → side ≡ true → KeepsSending place.settings has.end h e
sends_points place c k side h e has holds sends = holds.keeps.sending has.end (has.side_is ∙ sends) has.here

receives_points : (place : Place) (c k : ConnKey) (side : Bool) (h : List Entry) (e : Entry) (has : HasEnd place c side h) → Holds place h e → side ≡ false → Receives place.settings has.end h e
receives_points place c k side h e has holds receives = holds.keeps.receiving has.end (has.side_is ∙ receives) has.here

-- ---- fields of each connection

same_now : (place : Place) (c : ConnKey) (side : Bool) (h : List Entry) (e : Entry) → Concerns place c side e → HasEnd place c side h → Holds place h e → (k : ConnKey) → SameAgain k (h ++ e ∷ [])
same_now place c side h e is has holds k = elim (mine k c side true) [
  | inl w ↦ subst (λ x. SameAgain x (h ++ e ∷ [])) (has.key ∙ sym w.0) (sends_points place c k side h e has holds w.1).same
  | inr other ↦ same_stays k h e (nothing_of place c k side e is other).rows (same_whole place k h holds.law)
]

sent_now : (place : Place) (c : ConnKey) (side : Bool) (h : List Entry) (e : Entry) → Concerns place c side e → HasEnd place c side h → Holds place h e → (k : ConnKey) → Sends k (h ++ e ∷ [])
sent_now place c side h e is has holds k = elim (mine k c side true) [
  | inl w ↦ subst (λ x. Sends x (h ++ e ∷ [])) (has.key ∙ sym w.0) (sends_points place c k side h e has holds w.1).sent
  | inr other ↦
      let none = nothing_of place c k side e is other in
      sends_stay k h e (record { puts_none = none.puts_none; finishes_none = none.finishes_none; rows = none.rows }) (sends_whole place k h holds.law)
]

taken_now : (place : Place) (c : ConnKey) (side : Bool) (h : List Entry) (e : Entry) → Concerns place c side e → HasEnd place c side h → Holds place h e → (k : ConnKey) → k.session ≡ place.session → k.to ≡ place.at → TakesNext k h e
taken_now place c side h e is has holds k session to = elim (mine k c side false) [
  | inl w ↦ subst (λ x. TakesNext x h e) (has.key ∙ sym w.0) (receives_points place c k side h e has holds w.1).taken
  | inr other ↦ λ p one. absurd (let bad : [] ≡ p ∷ [] = sym (receives_none place c k side e is.asks other session to).takes_none ∙ one in cc)
]

told_now : (place : Place) (c : ConnKey) (side : Bool) (h : List Entry) (e : Entry) → Concerns place c side e → HasEnd place c side h → Holds place h e → (k : ConnKey) → Tells k (h ++ e ∷ []) e
told_now place c side h e is has holds k = elim (mine k c side false) [
  | inl w ↦ subst (λ x. Tells x (h ++ e ∷ []) e) (has.key ∙ sym w.0) (receives_points place c k side h e has holds w.1).told
  | inr other ↦ record {
    ack = λ p w. absurd (answers_none place c k side e is other _ p refl w);
    duplicate = λ p w. absurd (answers_none place c k side e is other _ p refl w);
    disorder = λ p w. absurd (answers_none place c k side e is other _ p refl w);
  }
]

stopped_now : (place : Place) (c : ConnKey) (side : Bool) (h : List Entry) (e : Entry) → Concerns place c side e → HasEnd place c side h → Holds place h e → (k : ConnKey) → StopsAsked k (h ++ e ∷ []) e
stopped_now place c side h e is has holds k = elim (mine k c side false) [
  | inl w ↦ subst (λ x. StopsAsked x (h ++ e ∷ []) e) (has.key ∙ sym w.0) (receives_points place c k side h e has holds w.1).stopped
  | inr other ↦ λ p w. absurd (answers_none place c k side e is other _ p refl w)
]

-- ---- who asked

-- what goes forth is from the sending end, which isn't stopped with the entry
forth_now : (place : Place) (c : ConnKey) (side : Bool) (h : List Entry) (e : Entry) → Concerns place c side e → HasEnd place c side h → Holds place h e
    → (k : ConnKey) (flags : Flags) (p : Packet) → goes_forth flags ≡ true → Emits e k flags p → IsSendingEnd h e k
forth_now place c side h e is has holds k flags p forth w =
    let at = emits_of c k side e flags p is.emitted w in
    let sends : side ≡ true = at.1 ∙ forth in
    let key : has.end.key ≡ k = has.key ∙ sym at.0 in
    let due = (sends_points place c k side h e has holds sends).emits has.here in
    let mine_w : Emits e has.end.key flags p = subst (λ x. Emits e x flags p) (sym key) w in
    record {
      end = has.end;
      here = has.here;
      key = key;
      sends = has.side_is ∙ sends;
      goes_on = λ off.
          goes_on place.settings has.end h e flags p due (λ stopped. queries_still has.end.key place.settings h e (still_then place c side e is)) forth mine_w (subst (λ x. IsStopped x (h ++ e ∷ [])) (sym key) off);
    }

-- what goes back is asked for
back_asked : (place : Place) (c : ConnKey) (side : Bool) (e : Entry) → AsksOf place c side e → side ≡ false → MayAnswer e.ask
back_asked place c side e (OfPut sends chunk ask) receives = absurd (flag_of_true side sends receives)
back_asked place c side e (OfFinish sends ask) receives = absurd (flag_of_true side sends receives)
back_asked place c side e (OfTakeFrom is ask) receives = subst MayAnswer (sym ask) tt
back_asked place c side e (OfHalt is ask) receives = subst MayAnswer (sym ask) tt
back_asked place c side e (OfTake is session to parcel ds ask reply from) receives = subst MayAnswer (sym ask) tt
back_asked place c side e (OfArrive d ask is directed) receives = subst MayAnswer (sym ask) (is.packet, is.reads, is.way ∙ ap not receives)

-- ---- what the ask itself says

-- the ask is of an end that is here, and of nothing else
pub record AsksEnd (place : Place) (h : List Entry) (ask : HubAsk) (reply : HubReply) : Type 0 where
  pub leaves_not : (query : ℕ) → ask ≡ Leave query → ⊥
  pub begins_not : (query : ℕ) (ends : List ConnEnd) → ask ≡ Begin query ends → ⊥
  pub clears_not : (query : ℕ) → ask ≡ Clear query → ⊥
  pub ticks_not : ask ≡ Tick → ⊥
  pub put : (key : ConnKey) (chunk : List ℕ) → ask ≡ Put key chunk → IsUnknownKey true key h → ⊥
  pub finish : (key : ConnKey) → ask ≡ Finish key → IsUnknownKey true key h → ⊥
  pub halt : (key : ConnKey) → ask ≡ Halt key → IsUnknownKey false key h → ⊥
  pub take_from : (key : ConnKey) → ask ≡ TakeFrom key → IsUnknownKey false key h → ⊥
  pub take : (query motion : ℕ) → ask ≡ Take query motion → ((end : ConnEnd) → IsOfMotion query motion end h → ⊥) → ⊥
  pub arrived : (d : Datagram) (p : Packet) → ask ≡ Arrive d → packet_of d ≡ Some p → Arrives place h d p reply
  pub reads : (d : Datagram) → ask ≡ Arrive d → (p : Packet) × (packet_of d ≡ Some p)

asks_end : (place : Place) (c : ConnKey) (side : Bool) (h : List Entry) (e : Entry) → AsksOf place c side e → HasEnd place c side h → AsksEnd place h e.ask e.reply
asks_end place c side h e (OfPut sends chunk ask) has = subst (λ a. AsksEnd place h a e.reply) (sym ask) (record {
  leaves_not = λ query bad. cc;
  begins_not = λ query ends bad. cc;
  clears_not = λ query bad. cc;
  ticks_not = λ bad. cc;
  put = λ key other asked away. let same : c ≡ key = cc in away has.end has.here (has.key ∙ same) (has.side_is ∙ sends);
  finish = λ key bad away. cc;
  halt = λ key bad away. cc;
  take_from = λ key bad away. cc;
  take = λ query motion bad away. cc;
  arrived = λ d p bad reads. cc;
  reads = λ d bad. cc;
})
asks_end place c side h e (OfFinish sends ask) has = subst (λ a. AsksEnd place h a e.reply) (sym ask) (record {
  leaves_not = λ query bad. cc;
  begins_not = λ query ends bad. cc;
  clears_not = λ query bad. cc;
  ticks_not = λ bad. cc;
  put = λ key other bad away. cc;
  finish = λ key asked away. let same : c ≡ key = cc in away has.end has.here (has.key ∙ same) (has.side_is ∙ sends);
  halt = λ key bad away. cc;
  take_from = λ key bad away. cc;
  take = λ query motion bad away. cc;
  arrived = λ d p bad reads. cc;
  reads = λ d bad. cc;
})
asks_end place c side h e (OfTakeFrom receives ask) has = subst (λ a. AsksEnd place h a e.reply) (sym ask) (record {
  leaves_not = λ query bad. cc;
  begins_not = λ query ends bad. cc;
  clears_not = λ query bad. cc;
  ticks_not = λ bad. cc;
  put = λ key other bad away. cc;
  finish = λ key bad away. cc;
  halt = λ key bad away. cc;
  take_from = λ key asked away. let same : c ≡ key = cc in away has.end has.here (has.key ∙ same) (has.side_is ∙ receives);
  take = λ query motion bad away. cc;
  arrived = λ d p bad reads. cc;
  reads = λ d bad. cc;
})
asks_end place c side h e (OfHalt receives ask) has = subst (λ a. AsksEnd place h a e.reply) (sym ask) (record {
  leaves_not = λ query bad. cc;
  begins_not = λ query ends bad. cc;
  clears_not = λ query bad. cc;
  ticks_not = λ bad. cc;
  put = λ key other bad away. cc;
  finish = λ key bad away. cc;
  halt = λ key asked away. let same : c ≡ key = cc in away has.end has.here (has.key ∙ same) (has.side_is ∙ receives);
  take_from = λ key bad away. cc;
  take = λ query motion bad away. cc;
  arrived = λ d p bad reads. cc;
  reads = λ d bad. cc;
})
asks_end place c side h e (OfTake receives session to parcel ds ask reply from) has = subst (λ a. AsksEnd place h a e.reply) (sym ask) (record {
  leaves_not = λ query bad. cc;
  begins_not = λ query ends bad. cc;
  clears_not = λ query bad. cc;
  ticks_not = λ bad. cc;
  put = λ key other bad away. cc;
  finish = λ key bad away. cc;
  halt = λ key bad away. cc;
  take_from = λ key bad away. cc;
  take = λ query motion asked away.
      let a : c.query ≡ query = cc in
      let b : c.motion ≡ motion = cc in
      away has.end (record { here = has.here; receiving = has.side_is ∙ receives; query_is = ap (λ (k : ConnKey). k.query) has.key ∙ a; motion_is = ap (λ (k : ConnKey). k.motion) has.key ∙ b });
  arrived = λ d p bad reads. cc;
  reads = λ d bad. cc;
})
asks_end place c side h e (OfArrive x ask is directed) has = subst (λ a. AsksEnd place h a e.reply) (sym ask) (record {
  leaves_not = λ query bad. cc;
  begins_not = λ query ends bad. cc;
  clears_not = λ query bad. cc;
  ticks_not = λ bad. cc;
  put = λ key other bad away. cc;
  finish = λ key bad away. cc;
  halt = λ key bad away. cc;
  take_from = λ key bad away. cc;
  take = λ query motion bad away. cc;
  arrived = λ d p asked reads.
      let same : x ≡ d = cc in
      let packet : is.packet ≡ p = one_packet d is.packet p (ap packet_of (sym same) ∙ is.reads) reads in
      let key : key_of p.head ≡ has.end.key = ap (λ (y : Packet). key_of y.head) (sym packet) ∙ is.key ∙ sym has.key in
      let way : goes_forth p.head.flags ≡ not side = ap (λ (y : Packet). goes_forth y.head.flags) (sym packet) ∙ is.way in
      let side_by : has.end.sending ≡ not (goes_forth p.head.flags) = has.side_is ∙ sym (not_not side) ∙ ap not (sym way) in
      let ways : IsDirected (goes_forth p.head.flags) d has.end.key =
      subst (λ b. IsDirected b d has.end.key) (sym way) (subst (λ (k : ConnKey). IsDirected (not side) d k) (sym has.key) (subst (λ y. IsDirected (not side) y c) same directed)) in
      Known (not_foreign place h d p.head has.end has.here has.ours key side_by ways) has.end has.here (sym key) side_by;
  reads = λ d asked. let same : x ≡ d = cc in (is.packet, ap packet_of (sym same) ∙ is.reads);
})
  where
    not_not : (b : Bool) → not (not b) ≡ b
    not_not true = refl
    not_not false = refl

-- a refused tick answers no other ask
pub tick_asked : (ask : HubAsk) (reply : HubReply) (refusal : TickNo) → IsReplyTo ask reply → reply ≡ Ticked (Err refusal) → ask ≡ Tick
tick_asked ask reply refusal (inl memory) is = let bad : Memory ≡ Ticked (Err refusal) = sym memory ∙ is in cc
tick_asked ask reply refusal (inr kind) is = by ask (sym kind ∙ ap kind_replied is)
  where
    by : (a : HubAsk) → kind_asked a ≡ kind_replied (Ticked (Err refusal)) → a ≡ Tick
    by (Begin query ends) bad = cc
    by (Put key chunk) bad = cc
    by (Finish key) bad = cc
    by (Take query motion) bad = cc
    by (TakeFrom key) bad = cc
    by (Halt key) bad = cc
    by (Arrive d) bad = cc
    by Tick is = refl
    by (Clear query) bad = cc
    by (Leave query) bad = cc

-- ---- the law

pub concerned_point : ConcernedPoint
concerned_point place c side h e is has holds take =
    let asks = asks_end place c side h e is.asks has in
    record {
      replied = is.replied;
      allowed = holds.allowed;
      formed = holds.formed;
      same = same_now place c side h e is has holds;
      forth = forth_now place c side h e is has holds;
      back = λ k flags p back w. back_asked place c side e is.asks ((emits_of c k side e flags p is.emitted w).1 ∙ back);
      sent = sent_now place c side h e is has holds;
      taken = taken_now place c side h e is has holds;
      told = told_now place c side h e is has holds;
      stopped = stopped_now place c side h e is has holds;
      cleared = λ query asked left end here same. absurd (asks.leaves_not query asked);
      known = record {
        put = λ key chunk asked away given. absurd (asks.put key chunk asked away);
        finish = λ key asked away given. absurd (asks.finish key asked away);
        halt = λ key asked away given. absurd (asks.halt key asked away);
        take_from = λ key asked away given. absurd (asks.take_from key asked away);
        take = λ query motion asked away given. absurd (asks.take query motion asked away);
      };
      refused = λ end sends here. (holds.keeps.sending end sends here).refuses here;
      take = λ query motion asked end there given. take query motion asked;
      begin = λ query ends asked given. absurd (asks.begins_not query ends asked);
      clear = λ query asked live. absurd (asks.clears_not query asked);
      leave = λ query asked given. absurd (asks.leaves_not query asked);
      tick = λ refusal refused. absurd (asks.ticks_not (tick_asked e.ask e.reply refusal is.replied refused));
      arrived = λ d p asked reads given. asks.arrived d p asked reads;
      unread = λ d fault asked bad given. let w = asks.reads d asked in absurd (unread d w.0 fault bad w.1);
      answered = λ end receives here. (holds.keeps.receiving end receives here).answered here;
    }
