-- What the law of a hub gives of a whole history, and what one more entry leaves of it.
use Rattle.std.proofs.Common.{◌≡◌, ℕ, List, [], ◌∷◌, ◌++◌, Bool, true, false, cond, ◌||◌, ◌==◌, None, refl, ap, sym, ◌∙◌, subst, inl, inr, append-nil, arith}
use Rattle.std.specs.List.{Contains, flat_map}
use Rattle.std.proofs.lemmas.List.Elements.{Contains-append_cases}
use Rattle.ic_base.specs.declared.keys.ConnKey.{ConnKey}
use Rattle.ic_base.specs.declared.keys.ConnEnd.{ConnEnd}
use Rattle.ic_base.specs.declared.settings.Settings.{Settings}
use Rattle.ic_base.specs.declared.datagram.Datagram.{Datagram}
use Rattle.ic_header.specs.declared.flags.Flags.{Flags}
use Rattle.ic_law.specs.declared.history.Entry.{Entry}
use Rattle.ic_header.specs.Packets.{Packet, RowPacket, is_rows, goes_forth}
use Rattle.ic_law.specs.History.{emits, emitted_of, rows_in, rows_emitted_of, sent_upto}
use Rattle.ic_law.specs.Putting.{puts, chunks_put_of, finishes, finished_of, IsFinished}
use Rattle.ic_law.specs.Hearing.{stopped_of, IsStopped}
use Rattle.ic_law.specs.Filling.{sealed_of}
use Rattle.ic_law.specs.Points.{Place, Emits, SameAgain, SentUpto, Fills, Sends}
use Rattle.ic_law.specs.Clock.{clock_of, ticks_by}
use Rattle.ic_law.specs.Timers.{Timing}
use Rattle.ic_law.specs.Timing.{timing_of, settled, moved, rows_at}
use Rattle.ic_law.specs.Emitting.{query_due, queries_then, emitted_numbers, is_query, queries_in}
use Rattle.ic_law.specs.Emission.{EmitsDue, EmissionPoint}
use Rattle.ic_law.specs.Hub.{HubPoint, HubLaw}
use Rattle.ic_law.proofs.Lists.{Contains-none}
use Rattle.ic_law.proofs.Readings.{fold_every, every_push, emitted_of-push, rows_emitted_of-push, chunks_put_of-push, finished_of-push}
use Rattle.ic_law.proofs.Timings.{timing_of-push}
use Rattle.ic_hub_laws.specs.Laws.{LawGoesOn, TicksInOrder, EmissionGoesOn}
use Rattle.ic_law.proofs.Datagrams.{row_of, rows_is, query_is, forth_cases, no_datagram}

-- ---- of the whole history

-- packets of one number are one datagram
pub same_whole : (place : Place) (k : ConnKey) (h : List Entry) → HubLaw place h → SameAgain k h
same_whole place k h law = fold_every (HubPoint place) (SameAgain k) h (λ d other p q at_d. absurd (Contains-none d at_d)) (λ before e after at point old. point.same k) law

-- what was sent carries what was put
pub sends_whole : (place : Place) (k : ConnKey) (h : List Entry) → HubLaw place h → Sends k h
sends_whole place k h law = fold_every (HubPoint place) (Sends k) h (none k) (λ before e after at point old. point.sent k) law
  where
    none : (c : ConnKey) → Sends c []
    none c = record {
      packets = [];
      k = 0;
      sent = record {
        within = omega arith;
        each = λ p there. absurd (Contains-none p there);
        all = λ n low high. absurd (omega (arith, low, high));
        order = λ front back p there. absurd (empty front back p there);
      };
      fills = record { groups = []; end = None; are = refl; front = ([], refl); all = λ g e. cc };
    }
      where
        empty : (front back : List RowPacket) (p : RowPacket) → [] ≡ front ++ p ∷ back → ⊥
        empty [] back p there = cc
        empty (f ∷ front) back p there = let bad : [] ≡ f ∷ (front ++ p ∷ back) = there in cc

-- ---- one more entry that sends nothing of a connection

-- the entry puts and emits nothing of it
pub record SendsNothing (k : ConnKey) (e : Entry) : Type 0 where
  pub puts_none : puts k e ≡ []
  pub finishes_none : finishes k e ≡ false
  pub rows : flat_map (rows_in k) (emits e) ≡ []

pub same_stays : (k : ConnKey) (h : List Entry) (e : Entry) → flat_map (rows_in k) (emits e) ≡ [] → SameAgain k h → SameAgain k (h ++ e ∷ [])
same_stays k h e none old d other p q at_d at_o reads_d reads_o numbers = old d other p q (before d p at_d reads_d) (before other q at_o reads_o) reads_d reads_o numbers
  where
    before : (x : Datagram) (r : RowPacket) → Contains (emitted_of (h ++ e ∷ [])) x → rows_in k x ≡ r ∷ [] → Contains (emitted_of h) x
    before x r at reads = elim (Contains-append_cases (emitted_of h) (emits e) x (subst (λ l. Contains l x) (emitted_of-push h e) at)) [
      | inl there ↦ there
      | inr now ↦ absurd (no_datagram (rows_in k) (emits e) x r none now reads)
    ]

or_false : (b : Bool) → (b || false) ≡ b
or_false true = refl
or_false false = refl

pub sends_stay : (k : ConnKey) (h : List Entry) (e : Entry) → SendsNothing k e → Sends k h → Sends k (h ++ e ∷ [])
sends_stay k h e nothing old =
    let now = h ++ e ∷ [] in
    let rows : rows_emitted_of k now ≡ rows_emitted_of k h = rows_emitted_of-push k h e ∙ ap (λ l. rows_emitted_of k h ++ l) nothing.rows ∙ append-nil (rows_emitted_of k h) in
    let chunks : chunks_put_of k now ≡ chunks_put_of k h = chunks_put_of-push k h e ∙ ap (λ l. chunks_put_of k h ++ l) nothing.puts_none ∙ append-nil (chunks_put_of k h) in
    let finished : finished_of k now ≡ finished_of k h = finished_of-push k h e ∙ ap (λ b. finished_of k h || b) nothing.finishes_none ∙ or_false (finished_of k h) in
    record {
      packets = old.packets;
      k = old.k;
      sent = subst (λ l. SentUpto old.packets l old.k) (sym rows) old.sent;
      fills = subst (λ l. Fills l (IsFinished k now) old.packets) (sym chunks) (subst (λ b. Fills (chunks_put_of k h) (b ≡ true) old.packets) (sym finished) old.fills);
    }

-- ---- a stopped connection emits nothing forth

-- no status query stands on it
pub asked_none : (k : ConnKey) (settings : Settings) (h : List Entry) → stopped_of k h ≡ true → (timing_of k settings h).asked ≡ None
asked_none k settings h = fold_every (λ before e. Unit {0}) (λ x. stopped_of k x ≡ true → (timing_of k settings x).asked ≡ None) h
    (λ bad. let off : false ≡ true = bad in cc)
    (λ before e after at point old off.
    let now : timing_of k settings (before ++ e ∷ []) ≡ record (timing_of k settings before) { timers = []; asked = None } =
    timing_of-push k settings before e
    ∙ ap (λ b. cond b (record (timing_of k settings before) { timers = []; asked = None }) (settled k settings before (before ++ e ∷ []) (moved k before e (timing_of k settings before)))) off in
    ap (λ (t : Timing). t.asked) now)
    (λ before e after at. tt)

-- an entry that isn't a tick emits no status query
pub queries_still : (k : ConnKey) (settings : Settings) (h : List Entry) (e : Entry) → ticks_by e.reply ≡ 0 → queries_then k settings h e ≡ []
queries_still k settings h e still = ap (λ n. cond (n == 0) [] (cond (query_due (clock_of (h ++ e ∷ [])) (timing_of k settings h).asked) (sent_upto k h ∷ []) [])) still

-- nor does a tick on a stopped connection
pub queries_stopped : (k : ConnKey) (settings : Settings) (h : List Entry) (e : Entry) → stopped_of k h ≡ true → queries_then k settings h e ≡ []
queries_stopped k settings h e off =
    ap (λ a. cond (ticks_by e.reply == 0) [] (cond (query_due (clock_of (h ++ e ∷ [])) a) (sent_upto k h ∷ []) [])) (asked_none k settings h off) ∙ both (ticks_by e.reply == 0)
  where
    both : (b : Bool) → cond {A = List ℕ} b [] [] ≡ []
    both true = refl
    both false = refl

-- what emits a packet forth isn't stopped with it
pub goes_on : (settings : Settings) (end : ConnEnd) (h : List Entry) (e : Entry) (f : Flags) (p : Packet) → EmitsDue settings end h e → (IsStopped end.key (h ++ e ∷ []) → queries_then end.key settings h e ≡ [])
    → goes_forth f ≡ true → Emits e end.key f p → IsStopped end.key (h ++ e ∷ []) → ⊥
goes_on settings end h e f p due quiet forth w off = elim (forth_cases f forth) [
  | inl rows ↦
      let none : flat_map (rows_in end.key) (emits e) ≡ [] = due.rows ∙ ap (λ b. cond b [] (rows_at (sealed_of end.key settings (h ++ e ∷ [])) (emitted_numbers end.key settings h e (timing_of end.key settings h)))) off in
      no_datagram (rows_in end.key) (emits e) w.datagram (row_of p) none w.stands (rows_is end.key w.datagram p w.reads w.key (ap is_rows w.flags_are ∙ rows))
  | inr query ↦ no_datagram (queries_in end.key) (emits e) w.datagram p.head.seq (due.queries ∙ quiet off) w.stands (query_is end.key w.datagram p w.reads w.key (ap is_query w.flags_are ∙ query))
]

-- ---- the laws go on

pub law_goes_on : LawGoesOn
law_goes_on place h e law point = every_push (HubPoint place) h e law point

pub emission_goes_on : EmissionGoesOn
emission_goes_on place h e law keeps order =
    every_push (EmissionPoint place) h e law (record { due = λ end sends here. (keeps.sending end sends here).emits here; order = order })

-- an entry that isn't a tick has no order to keep
pub still_in_order : (settings : Settings) (h : List Entry) (e : Entry) → ticks_by e.reply ≡ 0 → TicksInOrder settings h e
still_in_order settings h e still once = let bad : 0 ≡ 1 = sym still ∙ once in absurd cc
