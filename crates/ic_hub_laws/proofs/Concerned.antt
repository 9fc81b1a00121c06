-- An entry about one end leaves every other end standing.
use Rattle.std.proofs.Common.{◌≡◌, ℕ, List, [], ◌∷◌, Bool, true, false, not, ℤ, cond, ◌&&◌, ◌==◌, Some, Ok, Err, refl, ap, sym, ◌∙◌, subst, inl, inr}
use Rattle.std.specs.List.{Contains, list_any}
use Rattle.std.specs.Ordering.{int_eq}
use Rattle.std.proofs.lemmas.Bool.Decides.{Decides-eqb, Decides-int_eq}
use Rattle.ic_base.specs.declared.keys.ConnKey.{ConnKey}
use Rattle.ic_base.specs.declared.keys.ConnEnd.{ConnEnd}
use Rattle.ic_base.specs.declared.datagram.Datagram.{Datagram}
use Rattle.ic_base.specs.Keys.{key_eq}
use Rattle.ic_base.proofs.SameKeys.{key_eq-tells}
use Rattle.ic_header.specs.declared.flags.Flags.{Flags}
use Rattle.ic_header.specs.declared.flags.Flags.TheVariants.{Query, Ack, Stop, Disorder, Duplicate}
use Rattle.ic_law.specs.declared.history.HubAsk.{HubAsk}
use Rattle.ic_law.specs.declared.history.HubAsk.TheVariants.{Put, Finish, Take, TakeFrom, Halt, Arrive}
use Rattle.ic_law.specs.declared.history.HubReply.{HubReply}
use Rattle.ic_law.specs.declared.history.HubReply.TheVariants.{Begun, Gave, Took, Came, Ticked, Cleared, Left, Memory}
use Rattle.ic_law.specs.declared.history.Entry.{Entry}
use Rattle.ic_header.specs.Packets.{Packet, RowPacket, packet_of, key_of, goes_forth}
use Rattle.ic_law.specs.History.{emits, rows_in, datagrams_of}
use Rattle.ic_law.specs.Putting.{puts, chunk_put, finishes, is_finish, was_given}
use Rattle.ic_law.specs.Taking.{takes, parcel_for, parcels_from, parcels_in, halts, is_halt}
use Rattle.ic_law.specs.Storing.{stores, stored_by, datagram_tells_stored}
use Rattle.ic_law.specs.Hearing.{hears, heard_by, was_handled}
use Rattle.ic_law.specs.Points.{Place, Emits}
use Rattle.ic_law.specs.Clock.{ticks_by}
use Rattle.ic_law.specs.Emitting.{queries_in}
use Rattle.ic_law.specs.Hub.{Ticking, kind_asked, IsReplyTo}
use Rattle.ic_law.proofs.Lists.{Contains-head}
use Rattle.ic_law.proofs.Readings.{rows_in-reads, rows_go_forth}
use Rattle.ic_sender.specs.Entries.{IsNothingOf, IsSilent}
use Rattle.ic_receiver.specs.Entries.{IsSilent as IsSilentReceiving}
use Rattle.ic_hub_laws.specs.Entries.{AsksOf, OfPut, OfFinish, OfTakeFrom, OfTake, OfHalt, OfArrive, Concerns}
use Rattle.ic_hub_laws.specs.Laws.{PassesSending, ConcernedPasses}
use Rattle.ic_law.proofs.Datagrams.{rows_not, queries_not_of, answer_not, flat_none, one_packet}
use Rattle.ic_hub_laws.proofs.Telling.{emits_of}

-- ---- keys

pub key_fields : (a b : ConnKey) → a.session ≡ b.session → a.query ≡ b.query → a.motion ≡ b.motion → a.from ≡ b.from → a.to ≡ b.to → a ≡ b
key_fields a b s q m f t =
    ap (λ x. key x a.query a.motion a.from a.to) s ∙ ap (λ x. key b.session x a.motion a.from a.to) q ∙ ap (λ x. key b.session b.query x a.from a.to) m
    ∙ ap (λ x. key b.session b.query b.motion x a.to) f ∙ ap (λ x. key b.session b.query b.motion b.from x) t
  where
    key : ℕ → ℕ → ℕ → ℤ → ℤ → ConnKey
    key session query motion from to = record { session = session; query = query; motion = motion; from = from; to = to }

-- ---- a sending end

-- what an ask puts and hears of a connection
pub record SendsNone (k : ConnKey) (e : Entry) : Type 0 where
  pub puts_none : puts k e ≡ []
  pub finishes_none : finishes k e ≡ false
  pub hears_none : hears k e ≡ []

and_no : (a b : Bool) → (a ≡ true → ⊥) → (a && b) ≡ false
and_no true b apart = absurd (apart refl)
and_no false b apart = refl

cond_same : {A : Type 0} (a : Bool) (l : List A) → l ≡ [] → cond a l [] ≡ []
cond_same true l none = none
cond_same false l none = refl

sends_none : (place : Place) (c k : ConnKey) (side : Bool) (e : Entry) → AsksOf place c side e → (k ≡ c → side ≡ true → ⊥) → SendsNone k e
sends_none place c k side e (OfPut sends chunk ask) apart = record {
  puts_none = ap (λ a. chunk_put k a e.reply) ask ∙ ap (λ b. cond b (chunk ∷ []) []) (and_no (key_eq c k) (was_given e.reply) (λ same. apart (sym (key_eq-tells c k same)) sends));
  finishes_none = ap (λ a. is_finish k a e.reply) ask;
  hears_none = ap (λ a. heard_by k a e.reply) ask;
}
sends_none place c k side e (OfFinish sends ask) apart = record {
  puts_none = ap (λ a. chunk_put k a e.reply) ask;
  finishes_none = ap (λ a. is_finish k a e.reply) ask ∙ and_no (key_eq c k) (was_given e.reply) (λ same. apart (sym (key_eq-tells c k same)) sends);
  hears_none = ap (λ a. heard_by k a e.reply) ask;
}
sends_none place c k side e (OfTakeFrom receives ask) apart =
    record { puts_none = ap (λ a. chunk_put k a e.reply) ask; finishes_none = ap (λ a. is_finish k a e.reply) ask; hears_none = ap (λ a. heard_by k a e.reply) ask }
sends_none place c k side e (OfHalt receives ask) apart =
    record { puts_none = ap (λ a. chunk_put k a e.reply) ask; finishes_none = ap (λ a. is_finish k a e.reply) ask; hears_none = ap (λ a. heard_by k a e.reply) ask }
sends_none place c k side e (OfTake receives session to parcel ds ask reply from) apart =
    record { puts_none = ap (λ a. chunk_put k a e.reply) ask; finishes_none = ap (λ a. is_finish k a e.reply) ask; hears_none = ap (λ a. heard_by k a e.reply) ask }
sends_none place c k side e (OfArrive d ask is directed) apart = record {
  puts_none = ap (λ a. chunk_put k a e.reply) ask;
  finishes_none = ap (λ a. is_finish k a e.reply) ask;
  hears_none = ap (λ a. heard_by k a e.reply) ask ∙ cond_same (was_handled e.reply) _ (answer_not k d is.packet is.reads (λ key back. apart (sym key ∙ is.key) (sends side (sym is.way ∙ back))));
}
  where
    sends : (b : Bool) → not b ≡ false → b ≡ true
    sends true x = refl
    sends false x = sym x

-- an entry about one end puts, hears and emits nothing of any connection but this one's sending end
pub nothing_of : (place : Place) (c k : ConnKey) (side : Bool) (e : Entry) → Concerns place c side e → (k ≡ c → side ≡ true → ⊥) → IsNothingOf k e
nothing_of place c k side e is apart =
    let asks = sends_none place c k side e is.asks apart in
    record {
      puts_none = asks.puts_none;
      finishes_none = asks.finishes_none;
      hears_none = asks.hears_none;
      rows = flat_none (rows_in k) (emits e) (λ d at. let w = is.emitted d at in rows_not k d w.packet w.reads (λ key forth. apart (sym key ∙ w.key) (sym w.way ∙ forth)));
      queries = flat_none (queries_in k) (emits e) (λ d at. let w = is.emitted d at in queries_not_of k d w.packet w.reads (λ key forth. apart (sym key ∙ w.key) (sym w.way ∙ forth)));
    }

-- no clock goes on
still_by : (ask : HubAsk) (reply : HubReply) → IsReplyTo ask reply → (kind_asked ask ≡ Ticking → ⊥) → ticks_by reply ≡ 0
still_by ask (Begun r) is apart = refl
still_by ask (Gave r) is apart = refl
still_by ask (Took r) is apart = refl
still_by ask (Came how ds) is apart = refl
still_by ask (Ticked (Ok ds)) (inl memory) apart = let bad : Ticked (Ok ds) ≡ Memory = memory in cc
still_by ask (Ticked (Ok ds)) (inr kind) apart = absurd (apart (sym kind))
still_by ask (Ticked (Err refusal)) is apart = refl
still_by ask (Cleared r) is apart = refl
still_by ask (Left r) is apart = refl
still_by ask Memory is apart = refl

no_tick : (place : Place) (c : ConnKey) (side : Bool) (e : Entry) → AsksOf place c side e → kind_asked e.ask ≡ Ticking → ⊥
no_tick place c side e (OfPut sends chunk ask) kind = let bad : kind_asked (Put c chunk) ≡ Ticking = sym (ap kind_asked ask) ∙ kind in cc
no_tick place c side e (OfFinish sends ask) kind = let bad : kind_asked (Finish c) ≡ Ticking = sym (ap kind_asked ask) ∙ kind in cc
no_tick place c side e (OfTakeFrom receives ask) kind = let bad : kind_asked (TakeFrom c) ≡ Ticking = sym (ap kind_asked ask) ∙ kind in cc
no_tick place c side e (OfHalt receives ask) kind = let bad : kind_asked (Halt c) ≡ Ticking = sym (ap kind_asked ask) ∙ kind in cc
no_tick place c side e (OfTake receives session to parcel ds ask reply from) kind = let bad : kind_asked (Take c.query c.motion) ≡ Ticking = sym (ap kind_asked ask) ∙ kind in cc
no_tick place c side e (OfArrive d ask is directed) kind = let bad : kind_asked (Arrive d) ≡ Ticking = sym (ap kind_asked ask) ∙ kind in cc

pub still_then : (place : Place) (c : ConnKey) (side : Bool) (e : Entry) → Concerns place c side e → ticks_by e.reply ≡ 0
still_then place c side e is = still_by e.ask e.reply is.replied (no_tick place c side e is.asks)

-- asks of a sending end
record AsksSending (k : ConnKey) (ask : HubAsk) : Type 0 where
  pub put : (chunk : List ℕ) → ask ≡ Put k chunk → ⊥
  pub finish : ask ≡ Finish k → ⊥
  pub heard : (d : Datagram) (p : Packet) → ask ≡ Arrive d → packet_of d ≡ Some p → goes_forth p.head.flags ≡ false → key_of p.head ≡ k → ⊥

asks_sending : (place : Place) (c k : ConnKey) (side : Bool) (e : Entry) → AsksOf place c side e → (k ≡ c → side ≡ true → ⊥) → AsksSending k e.ask
asks_sending place c k side e (OfPut sends chunk ask) apart = subst (AsksSending k) (sym ask) (record {
  put = λ other is. let same : c ≡ k = cc in apart (sym same) sends;
  finish = λ bad. cc;
  heard = λ d p bad reads back key. cc;
})
asks_sending place c k side e (OfFinish sends ask) apart = subst (AsksSending k) (sym ask) (record {
  put = λ other bad. cc;
  finish = λ is. let same : c ≡ k = cc in apart (sym same) sends;
  heard = λ d p bad reads back key. cc;
})
asks_sending place c k side e (OfTakeFrom receives ask) apart = subst (AsksSending k) (sym ask) (record { put = λ other bad. cc; finish = λ bad. cc; heard = λ d p bad reads back key. cc })
asks_sending place c k side e (OfHalt receives ask) apart = subst (AsksSending k) (sym ask) (record { put = λ other bad. cc; finish = λ bad. cc; heard = λ d p bad reads back key. cc })
asks_sending place c k side e (OfTake receives session to parcel ds ask reply from) apart =
    subst (AsksSending k) (sym ask) (record { put = λ other bad. cc; finish = λ bad. cc; heard = λ d p bad reads back key. cc })
asks_sending place c k side e (OfArrive d ask is directed) apart = subst (AsksSending k) (sym ask) (record {
  put = λ other bad. cc;
  finish = λ bad. cc;
  heard = λ other p asked reads back key.
      let same : d ≡ other = cc in
      let packet : is.packet ≡ p = one_packet d is.packet p is.reads (ap packet_of same ∙ reads) in
      apart (sym key ∙ ap (λ (x : Packet). key_of x.head) (sym packet) ∙ is.key) (sends side (sym is.way ∙ ap (λ (x : Packet). goes_forth x.head.flags) packet ∙ back));
})
  where
    sends : (b : Bool) → not b ≡ false → b ≡ true
    sends true x = refl
    sends false x = sym x

pub sending_silent : (place : Place) (c : ConnKey) (side : Bool) (h : List Entry) (e : Entry) (other : ConnEnd) → Concerns place c side e → (other.key ≡ c → side ≡ true → ⊥) → IsSilent other h e
sending_silent place c side h e other is apart =
    let asks = asks_sending place c other.key side e is.asks apart in
    record {
      nothing = nothing_of place c other.key side e is apart;
      still = still_then place c side e is;
      put = λ here chunk asked. absurd (asks.put chunk asked);
      finish = λ here asked. absurd (asks.finish asked);
      heard = λ here d p asked directed reads back key. absurd (asks.heard d p asked reads back key);
    }

-- ---- a receiving end

-- what an ask takes, stores and halts of a connection
pub record ReceivesNone (k : ConnKey) (e : Entry) : Type 0 where
  pub takes_none : takes k e ≡ []
  pub stores_none : stores k e ≡ []
  pub halts_none : halts k e ≡ false

cond_not : {A : Type 0} (b : Bool) (l : List A) → (b ≡ true → ⊥) → cond b l [] ≡ []
cond_not true l apart = absurd (apart refl)
cond_not false l apart = refl

pub receives_none : (place : Place) (c k : ConnKey) (side : Bool) (e : Entry) → AsksOf place c side e → (k ≡ c → side ≡ false → ⊥) → k.session ≡ place.session → k.to ≡ place.at → ReceivesNone k e
receives_none place c k side e (OfPut sends chunk ask) apart session to =
    record { takes_none = ap (λ a. parcel_for k a e.reply) ask; stores_none = ap (λ a. stored_by k a e.reply) ask; halts_none = ap (λ a. is_halt k a e.reply) ask }
receives_none place c k side e (OfFinish sends ask) apart session to =
    record { takes_none = ap (λ a. parcel_for k a e.reply) ask; stores_none = ap (λ a. stored_by k a e.reply) ask; halts_none = ap (λ a. is_halt k a e.reply) ask }
receives_none place c k side e (OfTakeFrom receives ask) apart session to = record {
  takes_none = ap (λ a. parcel_for k a e.reply) ask ∙ cond_not (key_eq c k) (parcels_in e.reply) (λ same. apart (sym (key_eq-tells c k same)) receives);
  stores_none = ap (λ a. stored_by k a e.reply) ask;
  halts_none = ap (λ a. is_halt k a e.reply) ask;
}
receives_none place c k side e (OfHalt receives ask) apart session to = record {
  takes_none = ap (λ a. parcel_for k a e.reply) ask;
  stores_none = ap (λ a. stored_by k a e.reply) ask;
  halts_none = ap (λ a. is_halt k a e.reply) ask ∙ and_no (key_eq c k) (was_given e.reply) (λ same. apart (sym (key_eq-tells c k same)) receives);
}
receives_none place c k side e (OfTake receives in_session here parcel ds ask reply from) apart session to = record {
  takes_none = ap (λ a. parcel_for k a e.reply) ask ∙ ap (parcel_for k (Take c.query c.motion)) reply ∙ by (c.query == k.query) (c.motion == k.motion) (int_eq parcel.from k.from) refl refl refl;
  stores_none = ap (λ a. stored_by k a e.reply) ask;
  halts_none = ap (λ a. is_halt k a e.reply) ask;
}
  where
    by : (x y z : Bool) → (c.query == k.query) ≡ x → (c.motion == k.motion) ≡ y → int_eq parcel.from k.from ≡ z → cond (x && y) (cond z (parcel ∷ []) []) [] ≡ []
    by true true true q m f =
        let same : c ≡ k = key_fields c k (in_session ∙ sym session) ((Decides-eqb c.query k.query).0 q) ((Decides-eqb c.motion k.motion).0 m) (sym from ∙ (Decides-int_eq parcel.from k.from).0 f) (here ∙ sym to) in
        absurd (apart (sym same) receives)
    by true true false q m f = refl
    by true false z q m f = refl
    by false y z q m f = refl
receives_none place c k side e (OfArrive d ask is directed) apart session to = record {
  takes_none = ap (λ a. parcel_for k a e.reply) ask;
  stores_none = ap (λ a. stored_by k a e.reply) ask
      ∙ cond_same (list_any datagram_tells_stored (datagrams_of e.reply)) _ (rows_not k d is.packet is.reads (λ key forth. apart (sym key ∙ is.key) (receives side (sym is.way ∙ forth))));
  halts_none = ap (λ a. is_halt k a e.reply) ask;
}
  where
    receives : (b : Bool) → not b ≡ true → b ≡ false
    receives true x = sym x
    receives false x = refl

-- nor of any connection of another query
pub receives_apart : (place : Place) (c k : ConnKey) (side : Bool) (e : Entry) → AsksOf place c side e → (k.query ≡ c.query → ⊥) → ReceivesNone k e
receives_apart place c k side e (OfTake receives in_session here parcel ds ask reply from) apart = record {
  takes_none = ap (λ a. parcel_for k a e.reply) ask ∙ by (c.query == k.query) (c.motion == k.motion) refl;
  stores_none = ap (λ a. stored_by k a e.reply) ask;
  halts_none = ap (λ a. is_halt k a e.reply) ask;
}
  where
    by : (x y : Bool) → (c.query == k.query) ≡ x → cond (x && y) (parcels_from k.from (parcels_in e.reply)) [] ≡ []
    by true y q = absurd (apart (sym ((Decides-eqb c.query k.query).0 q)))
    by false y q = refl
receives_apart place c k side e (OfPut sends chunk ask) apart =
    record { takes_none = ap (λ a. parcel_for k a e.reply) ask; stores_none = ap (λ a. stored_by k a e.reply) ask; halts_none = ap (λ a. is_halt k a e.reply) ask }
receives_apart place c k side e (OfFinish sends ask) apart =
    record { takes_none = ap (λ a. parcel_for k a e.reply) ask; stores_none = ap (λ a. stored_by k a e.reply) ask; halts_none = ap (λ a. is_halt k a e.reply) ask }
receives_apart place c k side e (OfTakeFrom receives ask) apart = record {
  takes_none = ap (λ a. parcel_for k a e.reply) ask ∙ cond_not (key_eq c k) (parcels_in e.reply) (λ same. apart (ap (λ (x : ConnKey). x.query) (sym (key_eq-tells c k same))));
  stores_none = ap (λ a. stored_by k a e.reply) ask;
  halts_none = ap (λ a. is_halt k a e.reply) ask;
}
receives_apart place c k side e (OfHalt receives ask) apart = record {
  takes_none = ap (λ a. parcel_for k a e.reply) ask;
  stores_none = ap (λ a. stored_by k a e.reply) ask;
  halts_none = ap (λ a. is_halt k a e.reply) ask ∙ and_no (key_eq c k) (was_given e.reply) (λ same. apart (ap (λ (x : ConnKey). x.query) (sym (key_eq-tells c k same))));
}
receives_apart place c k side e (OfArrive d ask is directed) apart = record {
  takes_none = ap (λ a. parcel_for k a e.reply) ask;
  stores_none = ap (λ a. stored_by k a e.reply) ask
      ∙ cond_same (list_any datagram_tells_stored (datagrams_of e.reply)) _ (rows_not k d is.packet is.reads (λ key forth. apart (ap (λ (x : ConnKey). x.query) (sym key ∙ is.key))));
  halts_none = ap (λ a. is_halt k a e.reply) ask;
}

-- asks of a receiving end
record AsksReceiving (k : ConnKey) (ask : HubAsk) : Type 0 where
  pub rows : (d : Datagram) (q : RowPacket) → ask ≡ Arrive d → rows_in k d ≡ q ∷ [] → ⊥
  pub query : (d : Datagram) (p : Packet) → ask ≡ Arrive d → packet_of d ≡ Some p → key_of p.head ≡ k → p.head.flags ≡ Query → ⊥
  pub take_from : ask ≡ TakeFrom k → ⊥
  pub halt : ask ≡ Halt k → ⊥

asks_receiving : (place : Place) (c k : ConnKey) (side : Bool) (e : Entry) → AsksOf place c side e → (k ≡ c → side ≡ false → ⊥) → AsksReceiving k e.ask
asks_receiving place c k side e (OfPut sends chunk ask) apart =
    subst (AsksReceiving k) (sym ask) (record { rows = λ d q bad reads. cc; query = λ d p bad reads key flags. cc; take_from = λ bad. cc; halt = λ bad. cc })
asks_receiving place c k side e (OfFinish sends ask) apart =
    subst (AsksReceiving k) (sym ask) (record { rows = λ d q bad reads. cc; query = λ d p bad reads key flags. cc; take_from = λ bad. cc; halt = λ bad. cc })
asks_receiving place c k side e (OfTakeFrom receives ask) apart = subst (AsksReceiving k) (sym ask) (record {
  rows = λ d q bad reads. cc;
  query = λ d p bad reads key flags. cc;
  take_from = λ is. let same : c ≡ k = cc in apart (sym same) receives;
  halt = λ bad. cc;
})
asks_receiving place c k side e (OfHalt receives ask) apart = subst (AsksReceiving k) (sym ask) (record {
  rows = λ d q bad reads. cc;
  query = λ d p bad reads key flags. cc;
  take_from = λ bad. cc;
  halt = λ is. let same : c ≡ k = cc in apart (sym same) receives;
})
asks_receiving place c k side e (OfTake receives session to parcel ds ask reply from) apart =
    subst (AsksReceiving k) (sym ask) (record { rows = λ d q bad reads. cc; query = λ d p bad reads key flags. cc; take_from = λ bad. cc; halt = λ bad. cc })
asks_receiving place c k side e (OfArrive d ask is directed) apart = subst (AsksReceiving k) (sym ask) (record {
  rows = λ other q asked reads.
      let same : d ≡ other = cc in
      let w = rows_in-reads k d q (subst (λ l. Contains l q) (sym (ap (rows_in k) same ∙ reads)) (Contains-head q [])) in
      other_way w.packet w.reads w.key (rows_go_forth w.packet.head.flags w.rows);
  query = λ other p asked reads key flags. let same : d ≡ other = cc in other_way p (ap packet_of same ∙ reads) key (ap goes_forth flags);
  take_from = λ bad. cc;
  halt = λ bad. cc;
})
  where
    receives : (b : Bool) → not b ≡ true → b ≡ false
    receives true x = sym x
    receives false x = refl

    other_way : (p : Packet) → packet_of d ≡ Some p → key_of p.head ≡ k → goes_forth p.head.flags ≡ true → ⊥
    other_way p reads key forth =
        let packet : is.packet ≡ p = one_packet d is.packet p is.reads reads in
        apart (sym key ∙ ap (λ (x : Packet). key_of x.head) (sym packet) ∙ is.key) (receives side (sym is.way ∙ ap (λ (x : Packet). goes_forth x.head.flags) packet ∙ forth))

-- an entry about one end emits no answer of any other connection, nor of its own sending end
pub answers_none : (place : Place) (c k : ConnKey) (side : Bool) (e : Entry) → Concerns place c side e → (k ≡ c → side ≡ false → ⊥) → (f : Flags) (p : Packet) → goes_forth f ≡ false → Emits e k f p → ⊥
answers_none place c k side e is apart f p back w = let at = emits_of c k side e f p is.emitted w in apart at.0 (at.1 ∙ back)

pub receiving_silent : (place : Place) (c : ConnKey) (side : Bool) (h : List Entry) (e : Entry) (other : ConnEnd) → Concerns place c side e → (other.key ≡ c → side ≡ false → ⊥)
    → other.key.session ≡ place.session → other.key.to ≡ place.at → IsSilentReceiving other h e
receiving_silent place c side h e other is apart session to =
    let none = receives_none place c other.key side e is.asks apart session to in
    let asks = asks_receiving place c other.key side e is.asks apart in
    record {
      takes_none = none.takes_none;
      stores_none = none.stores_none;
      halts_none = none.halts_none;
      ack = λ p w. answers_none place c other.key side e is apart Ack p refl w;
      duplicate = λ p w. answers_none place c other.key side e is apart Duplicate p refl w;
      disorder = λ p w. answers_none place c other.key side e is apart Disorder p refl w;
      stop = λ p w. absurd (answers_none place c other.key side e is apart Stop p refl w);
      rows = λ here d q asked directed reads. absurd (asks.rows d q asked reads);
      query = λ here d p asked directed reads key flags. absurd (asks.query d p asked reads key flags);
      take_from = λ here asked. absurd (asks.take_from asked);
      halt = λ here asked. absurd (asks.halt asked);
    }

-- ---- the law

pub passes : (end : ConnEnd) (h : List Entry) (e : Entry) → IsSilent end h e → PassesSending end h e
passes end h e silent = record { silent = silent; before = λ away. record { nothing = silent.nothing; away = away } }

pub concerned_passes : ConcernedPasses
concerned_passes place c side h e other is =
    (λ apart. passes other h e (sending_silent place c side h e other is apart), λ apart session to. receiving_silent place c side h e other is apart session to)
