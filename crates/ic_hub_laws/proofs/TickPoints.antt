-- A tick has the points of a hub.
use Rattle.std.proofs.Common.{◌≡◌, List, [], ◌∷◌, ◌++◌, Bool, true, false, ◌||◌, Ok, Err, refl, ap, sym, ◌∙◌, subst, inl, inr}
use Rattle.std.specs.List.{Contains, flat_map, list_any}
use Rattle.std.proofs.lemmas.List.Elements.{Contains-append_cases}
use Rattle.ic_base.specs.declared.keys.ConnKey.{ConnKey}
use Rattle.ic_base.specs.declared.keys.ConnEnd.{ConnEnd}
use Rattle.ic_base.specs.declared.datagram.Datagram.{Datagram}
use Rattle.ic_header.specs.declared.flags.Flags.{Flags}
use Rattle.ic_law.specs.declared.history.HubAsk.TheVariants.{Begin, Put, Finish, Take, TakeFrom, Halt, Arrive, Tick, Clear, Leave}
use Rattle.ic_law.specs.declared.history.HubReply.TheVariants.{Ticked}
use Rattle.ic_law.specs.declared.history.Entry.{Entry}
use Rattle.ic_header.specs.Packets.{Packet, RowPacket, goes_forth}
use Rattle.ic_law.specs.History.{emits, emitted_of, rows_in}
use Rattle.ic_law.specs.Putting.{puts, finishes}
use Rattle.ic_law.specs.Taking.{takes}
use Rattle.ic_law.specs.Hearing.{hears, is_stop, stopped_of, IsStopped}
use Rattle.ic_law.specs.Points.{Place, Emits, SameAgain, Sends, IsHere}
use Rattle.ic_law.specs.Emitting.{queries_then}
use Rattle.ic_law.specs.Hub.{IsSendingEnd, kind_asked, kind_replied}
use Rattle.ic_law.proofs.Lists.{Contains-flat_map, Contains-head, Contains-middle}
use Rattle.ic_law.proofs.Readings.{rows_in-reads, emitted_of-push, stopped_of-push}
use Rattle.ic_hub_laws.specs.Entries.{IsTick}
use Rattle.ic_hub_laws.specs.Laws.{Holds, TickPoint}
use Rattle.ic_hub_laws.proofs.Ticked.{tick_is, tick_emits, tick_answers_none, tick_tells_none}
use Rattle.ic_hub_laws.proofs.Whole.{same_whole, sends_whole, sends_stay, queries_stopped, goes_on}

-- ---- rows that a tick emits

-- a connection of which the tick emits rows is sent on here
rows_here : (h : List Entry) (e : Entry) (k : ConnKey) (d : Datagram) (r : RowPacket) → IsTick h e → Contains (emits e) d → Contains (rows_in k d) r → (end : ConnEnd) × IsHere end h × (end.sending ≡ true) × (end.key ≡ k)
rows_here h e k d r is at reads =
    let w = rows_in-reads k d r reads in
    let here = tick_emits h e k w.packet.head.flags w.packet is (record { datagram = d; stands = at; reads = w.reads; key = w.key; flags_are = refl }) in
    (here.end, here.here, here.sends, here.key)

same_now : (place : Place) (h : List Entry) (e : Entry) → IsTick h e → Holds place h e → (k : ConnKey) → SameAgain k (h ++ e ∷ [])
same_now place h e is holds k d other p q at_d at_o reads_d reads_o numbers =
    elim (Contains-append_cases (emitted_of h) (emits e) d (subst (λ l. Contains l d) (emitted_of-push h e) at_d)) [
      | inr now ↦ of_end d p now reads_d
      | inl before_d ↦ elim (Contains-append_cases (emitted_of h) (emits e) other (subst (λ l. Contains l other) (emitted_of-push h e) at_o)) [
        | inr now ↦ of_end other q now reads_o
        | inl before_o ↦ same_whole place k h holds.law d other p q before_d before_o reads_d reads_o numbers
      ]
    ]
  where
    of_end : (x : Datagram) (r : RowPacket) → Contains (emits e) x → rows_in k x ≡ r ∷ [] → d ≡ other
    of_end x r at reads =
        let w = rows_here h e k x r is at (subst (λ l. Contains l r) (sym reads) (Contains-head r [])) in
        subst (λ y. SameAgain y (h ++ e ∷ [])) w.3 (holds.keeps.sending w.0 w.2 w.1).same d other p q at_d at_o reads_d reads_o numbers

sent_now : (place : Place) (h : List Entry) (e : Entry) → IsTick h e → Holds place h e → (k : ConnKey) → Sends k (h ++ e ∷ [])
sent_now place h e is holds k = by (flat_map (rows_in k) (emits e)) refl
  where
    by : (rows : List RowPacket) → flat_map (rows_in k) (emits e) ≡ rows → Sends k (h ++ e ∷ [])
    by [] none = sends_stay k h e (record { puts_none = ap (puts k) (tick_is h e is); finishes_none = ap (finishes k) (tick_is h e is); rows = none }) (sends_whole place k h holds.law)
    by (r ∷ rows) some_rows =
        let at = Contains-flat_map (rows_in k) (emits e) r (subst (λ l. Contains l r) (sym some_rows) (Contains-head r rows)) in
        let w = rows_here h e k at.1 r is (subst (λ l. Contains l at.1) (sym at.3) (Contains-middle at.0 at.1 at.2)) at.4 in
        subst (λ y. Sends y (h ++ e ∷ [])) w.3 (holds.keeps.sending w.0 w.2 w.1).sent

-- ---- what goes forth

or_false : (b : Bool) → (b || false) ≡ b
or_false true = refl
or_false false = refl

forth_now : (place : Place) (h : List Entry) (e : Entry) → IsTick h e → Holds place h e → (k : ConnKey) (flags : Flags) (p : Packet) → goes_forth flags ≡ true → Emits e k flags p → IsSendingEnd h e k
forth_now place h e is holds k flags p forth w =
    let at = tick_emits h e k flags p is w in
    let due = (holds.keeps.sending at.end at.sends at.here).emits at.here in
    let c = at.end.key in
    let quiet : IsStopped c (h ++ e ∷ []) → queries_then c place.settings h e ≡ [] = (λ off.
    let unheard : hears c e ≡ [] = ap (hears c) (tick_is h e is) in
    queries_stopped c place.settings h e (sym (stopped_of-push c h e ∙ ap (λ l. stopped_of c h || list_any is_stop l) unheard ∙ or_false (stopped_of c h)) ∙ off)) in
    record {
      end = at.end;
      here = at.here;
      key = at.key;
      sends = at.sends;
      goes_on = λ off. goes_on place.settings at.end h e flags p due quiet forth (subst (λ x. Emits e x flags p) (sym at.key) w) (subst (λ x. IsStopped x (h ++ e ∷ [])) (sym at.key) off);
    }

-- ---- the law

pub tick_point : TickPoint
tick_point place h e is holds = record {
  replied = inr (ap kind_replied is.reply ∙ sym (ap kind_asked is.ask));
  allowed = holds.allowed;
  formed = holds.formed;
  same = same_now place h e is holds;
  forth = forth_now place h e is holds;
  back = λ k flags p back w. absurd (tick_answers_none h e k flags p is back w);
  sent = sent_now place h e is holds;
  taken = λ k session to p one. absurd (let bad : [] ≡ p ∷ [] = sym (ap (takes k) (tick_is h e is)) ∙ one in cc);
  told = λ k. let none = tick_tells_none h e k is in record { ack = λ p w. absurd (none.ack p w); duplicate = λ p w. absurd (none.duplicate p w); disorder = λ p w. absurd (none.disorder p w) };
  stopped = λ k p w. absurd (tick_answers_none h e k _ p is refl w);
  cleared = λ query asked left end here same. absurd (let bad : Tick ≡ Leave query = sym is.ask ∙ asked in cc);
  known = record {
    put = λ key chunk asked away given. absurd (let bad : Tick ≡ Put key chunk = sym is.ask ∙ asked in cc);
    finish = λ key asked away given. absurd (let bad : Tick ≡ Finish key = sym is.ask ∙ asked in cc);
    halt = λ key asked away given. absurd (let bad : Tick ≡ Halt key = sym is.ask ∙ asked in cc);
    take_from = λ key asked away given. absurd (let bad : Tick ≡ TakeFrom key = sym is.ask ∙ asked in cc);
    take = λ query motion asked away given. absurd (let bad : Tick ≡ Take query motion = sym is.ask ∙ asked in cc);
  };
  refused = λ end sends here. (holds.keeps.sending end sends here).refuses here;
  take = λ query motion asked end there given. absurd (let bad : Tick ≡ Take query motion = sym is.ask ∙ asked in cc);
  begin = λ query ends asked given. absurd (let bad : Tick ≡ Begin query ends = sym is.ask ∙ asked in cc);
  clear = λ query asked live. absurd (let bad : Tick ≡ Clear query = sym is.ask ∙ asked in cc);
  leave = λ query asked given. absurd (let bad : Tick ≡ Leave query = sym is.ask ∙ asked in cc);
  tick = λ refusal refused. absurd (let bad : Ticked (Ok is.ds) ≡ Ticked (Err refusal) = sym is.reply ∙ refused in cc);
  arrived = λ d p asked reads given. absurd (let bad : Tick ≡ Arrive d = sym is.ask ∙ asked in cc);
  unread = λ d fault asked fails given. absurd (let bad : Tick ≡ Arrive d = sym is.ask ∙ asked in cc);
  answered = λ end receives here. (holds.keeps.receiving end receives here).answered here;
}
