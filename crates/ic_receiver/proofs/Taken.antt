-- A receiving connection stands for what was taken of it, and for takes that were refused.
use Rattle.std.proofs.Common.{◌≡◌, ℕ, ◌+◌, List, [], ◌∷◌, ◌++◌, length, map, drop, Bool, true, false, cond, ◌&&◌, ◌||◌, ◌==◌, Some, None, Ok, Err, refl, ap, sym, ◌∙◌, subst, arith, inl, inr, append-nil, length-append}
use Rattle.std.specs.List.{Contains, find}
use Rattle.std.specs.Ordering.{int_eq}
use Rattle.std.proofs.lemmas.Bool.Decides.{Decides-eqb, Decides-int_eq, Decides-and, eqb_tells}
use Rattle.std.proofs.lemmas.List.Elements.{Contains-append_cases}
use Rattle.ic_base.specs.declared.keys.ConnKey.{ConnKey}
use Rattle.ic_base.specs.declared.keys.ConnEnd.{ConnEnd}
use Rattle.ic_base.specs.declared.settings.Settings.{Settings}
use Rattle.ic_base.specs.declared.datagram.Datagram.{Datagram}
use Rattle.ic_base.specs.declared.datagram.Parcel.{Parcel}
use Rattle.ic_base.specs.Keys.{key_eq}
use Rattle.ic_base.proofs.SameKeys.{key_eq-same}
use Rattle.ic_header.specs.declared.flags.Flags.TheVariants.{Ack}
use Rattle.ic_chunk.specs.Counts.{HasCounted}
use Rattle.ic_chunk.proofs.Ended.{tells}
use Rattle.ic_recvring.specs.Numbers as ring
use Rattle.ic_recvring.specs.Ring.{Ring, Packet, numbers, stored_of, after_front}
use Rattle.ic_recvring.proofs.Among.{Contains-tail, Contains-head, head_or_tail, numbers_bound}
use Rattle.ic_recvring.proofs.Stored.{packet_with}
use Rattle.ic_law.specs.declared.history.HubAsk.{HubAsk}
use Rattle.ic_law.specs.declared.history.HubAsk.TheVariants.{Begin, Put, Finish, Take, TakeFrom, Halt, Arrive, Tick, Clear, Leave}
use Rattle.ic_law.specs.declared.history.HubReply.TheVariants.{Took}
use Rattle.ic_law.specs.declared.history.HubNo.{HubNo}
use Rattle.ic_law.specs.declared.history.HubNo.TheVariants.{Empty, Ended}
use Rattle.ic_law.specs.declared.history.Entry.{Entry}
use Rattle.ic_header.specs.Packets.{RowPacket, answer_datagram}
use Rattle.ic_law.specs.History.{rows_arrived_of, number_of}
use Rattle.ic_law.specs.Taking.{takes, parcel_for, parcels_of, payloads_of, whole_of, is_halt}
use Rattle.ic_law.specs.Storing.{stored_by, stored_of as stored_in, stored_numbers_of}
use Rattle.ic_law.specs.Points.{IsEnded}
use Rattle.ic_law.specs.Receiving.{IsRunEnd, consumed_of, IsNext, IsTaken, IsTaking, TakesFrom, AnswersTake, Over, None as NothingNext, Taken, Receives}
use Rattle.ic_law.proofs.Lists.{Contains-none, Contains-map}
use Rattle.ic_law.proofs.Readings.{every_push}
use Rattle.ic_receiver.specs.Receiving.{Receiving, HandsFront, HandsOver, IsOver, IsEmpty}
use Rattle.ic_receiver.specs.Entries.{row_of, IsRefusing}
use Rattle.ic_receiver.specs.Standing.{Mirrors, Stands, TellsRows}
use Rattle.ic_receiver.proofs.Numbers.{same_run_end}
use Rattle.ic_receiver.proofs.Shown.{lawful_none, lawful_ack}
use Rattle.ic_receiver.proofs.Moving.{Moves, moves_by, whole_now, payloads_now, stored_arrived, run_had_still, stands_still, entry_is}
use Rattle.ic_receiver.proofs.Came.{same_numbers}

-- ---- the front

pub front_in : (n : ℕ) (packets : List Packet) (q : Packet) → find (λ p. p.seq == n) packets ≡ Some q → Contains packets q × (q.seq ≡ n)
front_in n [] q h = absurd (let bad : None ≡ Some q = h in cc)
front_in n (p ∷ packets) q h =
    elim (eqb_tells p.seq n) [
      | inl w ↦ let first : Some p ≡ Some q = sym (ap (λ b. cond b (Some p) (find (λ x. x.seq == n) packets)) w.0) ∙ h in
          let is : p ≡ q = cc in
          (subst (Contains (p ∷ packets)) is (Contains-head p packets), ap (λ (x : Packet). x.seq) (sym is) ∙ w.1)
      | inr w ↦ let later = front_in n packets q (sym (ap (λ b. cond b (Some p) (find (λ x. x.seq == n) packets)) w.0) ∙ h) in (Contains-tail p packets q later.0, later.1)
    ]

no_front_in : (n : ℕ) (packets : List Packet) (q : Packet) → find (λ p. p.seq == n) packets ≡ None → Contains packets q → q.seq ≡ n → ⊥
no_front_in n [] q h there is = Contains-none q there
no_front_in n (p ∷ packets) q h there is =
    elim (eqb_tells p.seq n) [
      | inl w ↦ let bad : Some p ≡ None = sym (ap (λ b. cond b (Some p) (find (λ x. x.seq == n) packets)) w.0) ∙ h in cc
      | inr w ↦ elim (head_or_tail p packets q there) [
        | inl same ↦ w.1 (ap (λ (x : Packet). x.seq) same ∙ is)
        | inr later ↦ no_front_in n packets q (sym (ap (λ b. cond b (Some p) (find (λ x. x.seq == n) packets)) w.0) ∙ h) later is
      ]
    ]

drop_in : (packets : List Packet) (q : Packet) → Contains (drop 1 packets) q → Contains packets q
drop_in [] q h = h
drop_in (p ∷ packets) q h = Contains-tail p packets q h

-- ---- an ask that takes

-- what such an entry adds
pub record Adds (c : ConnKey) (ask : HubAsk) (p : Parcel) (ds : List Datagram) : Type 0 where
  pub took : parcel_for c ask (Took (Ok (p, ds))) ≡ p ∷ []
  pub stored : stored_by c ask (Took (Ok (p, ds))) ≡ []
  pub halted : is_halt c ask (Took (Ok (p, ds))) ≡ false

both_same : (a b x y : ℕ) → a ≡ x → b ≡ y → ((a == x) && (b == y)) ≡ true
both_same a b x y e f = (Decides-and _ _ (Decides-eqb a x) (Decides-eqb b y)).1 (e, f)

pub adds : (c : ConnKey) (ask : HubAsk) (p : Parcel) (ds : List Datagram) → TakesFrom c ask p → Adds c ask p ds
adds c (Begin query ends) p ds h = absurd h
adds c (Put key chunk) p ds h = absurd h
adds c (Finish key) p ds h = absurd h
adds c (Take query motion) p ds h = record {
  took = ap (λ b. cond b (cond (int_eq p.from c.from) (p ∷ []) []) []) (both_same query motion c.query c.motion h.0 h.1) ∙ ap (λ b. cond b (p ∷ []) []) ((Decides-int_eq p.from c.from).1 h.2);
  stored = refl;
  halted = refl;
}
adds c (TakeFrom key) p ds h = record { took = ap (λ k. cond (key_eq k c) (p ∷ []) []) h.0 ∙ ap (λ b. cond b (p ∷ []) []) (key_eq-same c); stored = refl; halted = refl }
adds c (Halt key) p ds h = absurd h
adds c (Arrive d) p ds h = absurd h
adds c Tick p ds h = absurd h
adds c (Clear query) p ds h = absurd h
adds c (Leave query) p ds h = absurd h

no_arrive : (c : ConnKey) (ask : HubAsk) (p : Parcel) (d : Datagram) → TakesFrom c ask p → ask ≡ Arrive d → ⊥
no_arrive c ask p d h e = let bad : TakesFrom c (Arrive d) p = subst (λ a. TakesFrom c a p) e h in bad

no_halt : (c : ConnKey) (ask : HubAsk) (p : Parcel) (k : ConnKey) → TakesFrom c ask p → ask ≡ Halt k → ⊥
no_halt c ask p k h e = let bad : TakesFrom c (Halt k) p = subst (λ a. TakesFrom c a p) e h in bad

-- ---- what is known before

pub not_ended : (settings : Settings) (end : ConnEnd) (ring : Ring) (h : List Entry) → Mirrors settings end ring h → whole_of end.key h ≡ false → IsEnded end.key h → ⊥
not_ended settings end ring h mirrors goes_on (inl whole) = let bad : false ≡ true = sym goes_on ∙ whole in cc
not_ended settings end ring h mirrors goes_on (inr halted) = mirrors.running halted

pub ended_there : (settings : Settings) (s : Receiving) (h : List Entry) → IsOver s → Stands settings s h → IsEnded s.end.key h
ended_there settings s h (inl whole) stands = inl (stands.reflects.whole ∙ whole)
ended_there settings s h (inr none) stands = inr (stands.reflects.halted none)

pub empty_there : (settings : Settings) (s : Receiving) (h : List Entry) → IsEmpty s → Stands settings s h → (IsEnded s.end.key h → ⊥) × ((p : RowPacket) → IsNext s.end.key h p → ⊥)
empty_there settings s h empty stands =
    let old = empty.ring in
    let mirrors = stands.reflects.runs old empty.runs in
    let count : old.consumed ≡ consumed_of s.end.key h = mirrors.consumed in (
      not_ended settings s.end old h mirrors (stands.reflects.whole ∙ empty.goes_on),
      λ p next. elim (Contains-append_cases (ring.numbers_from 1 old.consumed) (numbers old.kept) p.seq (mirrors.back p.seq (Contains-map number_of (stored_in s.end.key h) p next.stored))) [
        | inl low ↦ let b = numbers_bound 1 old.consumed p.seq low in omega (arith, b.1, next.number, count)
        | inr there ↦ let found = packet_with old.kept p.seq there in no_front_in (old.consumed + 1) old.kept found.0 empty.front found.1 (omega (arith, found.2, next.number, count))
      ],
    )

-- ---- taking

module _ (settings : Settings) (end : ConnEnd) (s now : Ring) (h : List Entry) (p : Parcel) (d : Datagram) (mirrors : Mirrors settings end s h) (goes_on : whole_of end.key h ≡ false) (hands : HandsFront end s p d now) where
  front_stored : Contains (stored_in end.key h) (row_of hands.packet)
  front_stored = mirrors.kept hands.packet (front_in (s.consumed + 1) s.kept hands.packet hands.front).0

  front_next : hands.packet.seq ≡ consumed_of end.key h + 1
  front_next = (front_in (s.consumed + 1) s.kept hands.packet hands.front).1 ∙ ap (λ n. n + 1) mirrors.consumed

  run_there : IsRunEnd (stored_numbers_of end.key h) hands.run
  run_there = same_run_end (stored_of s) (stored_numbers_of end.key h) hands.run (same_numbers settings end s h mirrors) hands.run_end

  pub is_taken : IsTaken end h p (d ∷ [])
  is_taken = record {
    packet = row_of hands.packet;
    next = record { stored = front_stored; number = front_next };
    from = hands.from;
    payload = hands.payload;
    last = hands.last;
    run = hands.run;
    run_end = run_there;
    told = ap (λ x. x ∷ []) (hands.answer.is ∙ ap (λ n. answer_datagram end Ack hands.run (n + 1) []) mirrors.consumed);
  }

  taking : HubAsk → Entry
  taking ask = record { ask = ask; reply = Took (Ok (p, d ∷ [])) }

  moves_taking : (ask : HubAsk) → TakesFrom end.key ask p → Moves end.key h (h ++ record { ask = ask; reply = Took (Ok (p, d ∷ [])) } ∷ []) (p ∷ []) []
  moves_taking ask from = let a = adds end.key ask p (d ∷ []) from in moves_by end.key h (record { ask = ask; reply = Took (Ok (p, d ∷ [])) }) (p ∷ []) [] a.took a.stored a.halted

  count_now : (ask : HubAsk) → TakesFrom end.key ask p → s.consumed + 1 ≡ consumed_of end.key (h ++ record { ask = ask; reply = Took (Ok (p, d ∷ [])) } ∷ [])
  count_now ask from =
      let more = ap length (moves_taking ask from).took ∙ length-append (parcels_of end.key h) (p ∷ []) in
      let old : s.consumed ≡ consumed_of end.key h = mirrors.consumed in
      omega (arith, more, old)

  point_taking : (ask : HubAsk) → TakesFrom end.key ask p → Receives settings end h (record { ask = ask; reply = Took (Ok (p, d ∷ [])) })
  point_taking ask from =
      let c = end.key in
      let e : Entry = record { ask = ask; reply = Took (Ok (p, d ∷ [])) } in
      let now_there = h ++ e ∷ [] in
      let a = adds c ask p (d ∷ []) from in
      let m = moves_taking ask from in
      let lawful = lawful_ack end hands.run (s.consumed + 1) d now_there e hands.answer refl (run_had_still c h now_there (p ∷ []) [] hands.run m run_there) (count_now ask from) in
      record {
        taken = λ x one.
            let same : p ∷ [] ≡ x ∷ [] = sym a.took ∙ one in
            let is : p ≡ x = cc in
            subst (Contains (rows_arrived_of c h)) (as_row x is) (stored_arrived c h (row_of hands.packet) front_stored);
        told = lawful.told;
        stopped = lawful.stopped;
        answered = λ here. record {
          rows = λ other q asked directed reads given. absurd (no_arrive c ask p other from asked);
          query = λ other q asked directed reads key flags given. absurd (no_arrive c ask p other from asked);
          take = λ x ds w.
              let same : Took (Ok (p, d ∷ [])) ≡ Took (Ok (x, ds)) = w.reply in
              let pair : (p, d ∷ []) ≡ (x, ds) = cc in
              (not_ended settings end s h mirrors goes_on, subst (λ (r : Parcel × List Datagram). IsTaken end h r.0 r.1) pair is_taken);
          take_from = λ asked given. Taken (not_ended settings end s h mirrors goes_on) p (d ∷ []) is_taken refl;
          halt = λ asked given. absurd (no_halt c ask p c from asked);
        };
      }
    where
      with_parcel : ℕ → Parcel → RowPacket
      with_parcel n x = record { seq = n; payload = x.payload; last = x.last }

      as_row : (x : Parcel) → p ≡ x → row_of hands.packet ≡ record { seq = length (parcels_of end.key h) + 1; payload = x.payload; last = x.last }
      as_row x is =
          let payload : hands.packet.payload ≡ p.payload = sym hands.payload in
          let last : hands.packet.last ≡ p.last = sym hands.last in
          ap (λ n. record { seq = n; payload = hands.packet.payload; last = hands.packet.last }) front_next
          ∙ ap (λ l. record { seq = length (parcels_of end.key h) + 1; payload = l; last = hands.packet.last }) payload
          ∙ ap (λ b. record { seq = length (parcels_of end.key h) + 1; payload = p.payload; last = b }) last
          ∙ ap (with_parcel (length (parcels_of end.key h) + 1)) is

  mirrors_taking : (ask : HubAsk) → TakesFrom end.key ask p → Mirrors settings end now (h ++ record { ask = ask; reply = Took (Ok (p, d ∷ [])) } ∷ [])
  mirrors_taking ask from =
      let c = end.key in
      let m = moves_taking ask from in
      let same : stored_in c h ≡ stored_in c (h ++ record { ask = ask; reply = Took (Ok (p, d ∷ [])) } ∷ []) = sym (m.kept ∙ append-nil (stored_in c h)) in
      let is : now ≡ after_front s = hands.after_is in
      record {
        running = λ w. mirrors.running (m.back w);
        least = mirrors.least;
        packet = ap (λ (t : Ring). t.packet) is ∙ mirrors.packet;
        depth = ap (λ (t : Ring). t.depth) is ∙ mirrors.depth;
        consumed = ap (λ (t : Ring). t.consumed) is ∙ count_now ask from;
        stored = λ n there. subst (λ l. Contains (map number_of l) n) same (mirrors.stored n (subst (λ l. Contains l n) hands.stored there));
        back = λ n there. subst (λ l. Contains l n) (sym hands.stored) (mirrors.back n (subst (λ l. Contains (map number_of l) n) (sym same) there));
        kept = λ q there. subst (λ l. Contains l (row_of q)) same (mirrors.kept q (drop_in s.kept q (subst (λ (t : Ring). Contains t.kept q) is there)));
      }

  whole_taking : (ask : HubAsk) → TakesFrom end.key ask p → whole_of end.key (h ++ record { ask = ask; reply = Took (Ok (p, d ∷ [])) } ∷ []) ≡ p.last
  whole_taking ask from = whole_now end.key h _ (p ∷ []) [] (moves_taking ask from) ∙ ap (λ b. b || (p.last || false)) goes_on ∙ or_false p.last
    where
      or_false : (b : Bool) → (b || false) ≡ b
      or_false true = refl
      or_false false = refl

  payloads_taking : (ask : HubAsk) → TakesFrom end.key ask p → payloads_of end.key (h ++ record { ask = ask; reply = Took (Ok (p, d ∷ [])) } ∷ []) ≡ payloads_of end.key h ++ p.payload ∷ []
  payloads_taking ask from = payloads_now end.key h _ (p ∷ []) [] (moves_taking ask from)

pub stands_took : (settings : Settings) (s after : Receiving) (p : Parcel) (d : Datagram) (h : List Entry) (e : Entry) → HandsOver s p d after → IsTaking s.end.key p (d ∷ []) e → Stands settings s h
    → Stands settings after (h ++ e ∷ [])
stands_took settings s after p d h e hands is stands =
    let mirrors = stands.reflects.runs hands.ring hands.runs in
    let goes_on = stands.reflects.whole ∙ hands.goes_on in
    let x : Entry = record { ask = e.ask; reply = Took (Ok (p, d ∷ [])) } in
    let there = mirrors_taking settings s.end hands.ring hands.now h p d mirrors goes_on hands.hands e.ask is.ask in
    subst (λ y. Stands settings after (h ++ y ∷ [])) (entry_is e e.ask (Took (Ok (p, d ∷ []))) refl is.reply)
    (subst (λ t. Stands settings t (h ++ x ∷ [])) (sym hands.after_is) (record {
      law = every_push (Receives settings s.end) h x stands.law (point_taking settings s.end hands.ring hands.now h p d mirrors goes_on hands.hands e.ask is.ask);
      reflects = record {
        whole = whole_taking settings s.end hands.ring hands.now h p d mirrors goes_on hands.hands e.ask is.ask;
        halted = λ bad. absurd (let no : Some hands.now ≡ None = bad in cc);
        runs = λ r again. let same : hands.now ≡ r = cc in subst (λ t. Mirrors settings s.end t (h ++ x ∷ [])) same there;
        rows = subst (λ l. HasCounted l hands.rows) (sym (payloads_taking settings s.end hands.ring hands.now h p d mirrors goes_on hands.hands e.ask is.ask))
            (hands.counted (payloads_of s.end.key h) stands.reflects.rows);
      };
    }))

pub takes_now : (settings : Settings) (s after : Receiving) (p : Parcel) (d : Datagram) (h : List Entry) → HandsOver s p d after → Stands settings s h → (IsEnded s.end.key h → ⊥) × IsTaken s.end h p (d ∷ [])
takes_now settings s after p d h hands stands =
    let mirrors = stands.reflects.runs hands.ring hands.runs in
    let goes_on = stands.reflects.whole ∙ hands.goes_on in
    (not_ended settings s.end hands.ring h mirrors goes_on, is_taken settings s.end hands.ring hands.now h p d mirrors goes_on hands.hands)

-- what a connection that stands for a history says of the rows that were taken
pub tells_rows : (s : Receiving) → TellsRows s s.rows
tells_rows s settings h rows stands taken = tells (payloads_of s.end.key h) rows taken.rest taken.ended s.rows taken.assemble stands.reflects.rows

-- ---- refusals

refused : (settings : Settings) (s : Receiving) (h : List Entry) (why : HubNo) → AnswersTake s.end h (Took (Err why)) → Stands settings s h
    → Stands settings s (h ++ record { ask = TakeFrom s.end.key; reply = Took (Err why) } ∷ [])
refused settings s h why answers stands =
    let c = s.end.key in
    let e : Entry = record { ask = TakeFrom c; reply = Took (Err why) } in
    let m : Moves c h (h ++ e ∷ []) [] [] = moves_by c h e [] [] none refl refl in
    let lawful = lawful_none c (h ++ e ∷ []) e refl in
    stands_still settings s h e m (record {
      taken = λ x one. absurd (let bad : [] ≡ x ∷ [] = sym none ∙ one in cc);
      told = lawful.told;
      stopped = lawful.stopped;
      answered = λ here. record {
        rows = λ other q bad directed reads given. cc;
        query = λ other q bad directed reads key flags given. cc;
        take = λ x ds w. absurd (let bad : Took (Err why) ≡ Took (Ok (x, ds)) = w.reply in cc);
        take_from = λ asked given. answers;
        halt = λ bad given. cc;
      };
    }) stands
  where
    nothing : (b : Bool) (l : List Parcel) → l ≡ [] → cond b l [] ≡ []
    nothing true l e = e
    nothing false l e = refl

    none : takes s.end.key (record { ask = TakeFrom s.end.key; reply = Took (Err why) }) ≡ []
    none = nothing (key_eq s.end.key s.end.key) [] refl

pub stands_over : (settings : Settings) (s : Receiving) (h : List Entry) (e : Entry) → IsOver s → IsRefusing s.end.key Ended e → Stands settings s h → Stands settings s (h ++ e ∷ [])
stands_over settings s h e over is stands =
    subst (λ x. Stands settings s (h ++ x ∷ [])) (entry_is e (TakeFrom s.end.key) (Took (Err Ended)) is.ask is.reply) (refused settings s h Ended (Over (ended_there settings s h over stands) refl) stands)

pub stands_empty : (settings : Settings) (s : Receiving) (h : List Entry) (e : Entry) → IsEmpty s → IsRefusing s.end.key Empty e → Stands settings s h → Stands settings s (h ++ e ∷ [])
stands_empty settings s h e empty is stands =
    let w = empty_there settings s h empty stands in
    subst (λ x. Stands settings s (h ++ x ∷ [])) (entry_is e (TakeFrom s.end.key) (Took (Err Empty)) is.ask is.reply) (refused settings s h Empty (NothingNext w.0 w.1 refl) stands)
