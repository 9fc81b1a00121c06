-- Where one connection alone is concerned, all that an entry emits is of it, and is one list.
use Rattle.std.proofs.Common.{◌≡◌, ◌≢◌, ℕ, ◌-◌, min, max, List, [], ◌∷◌, ◌++◌, length, map, Bool, true, false, cond, ◌||◌, ◌==◌, Some, refl, ap, sym, ◌∙◌}
use Rattle.std.proofs.Common.{subst, inl, inr, arith, append-nil}
use Rattle.std.specs.List.{Contains}
use Rattle.ic_base.specs.declared.keys.ConnKey.{ConnKey}
use Rattle.ic_base.specs.declared.keys.ConnEnd.{ConnEnd}
use Rattle.ic_base.specs.declared.settings.Settings.{Settings}
use Rattle.ic_base.specs.declared.datagram.Datagram.{Datagram}
use Rattle.ic_header.proofs.Joining.{reads_spelled}
use Rattle.ic_window.specs.Window.{room_of}
use Rattle.ic_law.specs.declared.history.Entry.{Entry}
use Rattle.ic_header.specs.Packets.{Packet, RowPacket, packet_read, packet_of, key_of, goes_forth, row_datagram, query_datagram}
use Rattle.ic_law.specs.History.{emits, rows_in, greatest, sent_upto}
use Rattle.ic_law.specs.Putting.{chunks_put_of, finished_of}
use Rattle.ic_law.specs.Hearing.{hears, stopped_of, run_told, run_heard, consumed_told, consumed_heard}
use Rattle.ic_law.specs.Filling.{filling, sealed, sealed_of}
use Rattle.ic_law.specs.Points.{Place, Emits, IsHere}
use Rattle.ic_law.specs.Clock.{ticks_by, clock_of}
use Rattle.ic_law.specs.Timers.{Timing, timing_ticked, due_numbers}
use Rattle.ic_law.specs.Timing.{timing_of, moved, heard_then, fresh_count, rows_at, numbers_behind}
use Rattle.ic_law.specs.Emitting.{again_numbers, listed_then, rows_then, queries_in, queries_then, query_due}
use Rattle.ic_law.specs.Emission.{EmitsDue}
use Rattle.ic_law.specs.Hub.{HubPoint, MayAnswer}
use Rattle.ic_law.proofs.Readings.{chunks_put_of-push, finished_of-push, run_heard-push, consumed_heard-push}
use Rattle.ic_law.proofs.Deciding.{told_key}
use Rattle.ic_law.proofs.Datagrams.{forth_cases, rows_is, query_is, no_datagram, all_rows}
use Rattle.ic_law.proofs.Hearing.{AddsNone}
use Rattle.ic_law.proofs.Drained.{IsAtRest, stopped_before}
use Rattle.ic_unique.proofs.Alike.{Alike, rows_alike}

-- ---- an end that an entry doesn't concern

or_false : (b : Bool) → (b || false) ≡ b
or_false true = refl
or_false false = refl

sealed_stays : (c : ConnKey) (settings : Settings) (h : List Entry) (e : Entry) → AddsNone c e → sealed_of c settings (h ++ e ∷ []) ≡ sealed_of c settings h
sealed_stays c settings h e adds =
    ap (λ l. sealed (filling settings.packet l) (finished_of c (h ++ e ∷ []))) (chunks_put_of-push c h e ∙ ap (λ l. chunks_put_of c h ++ l) adds.puts_none ∙ append-nil (chunks_put_of c h))
    ∙ ap (sealed (filling settings.packet (chunks_put_of c h))) (finished_of-push c h e ∙ ap (λ b. finished_of c h || b) adds.finishes_none ∙ or_false (finished_of c h))

run_stays : (c : ConnKey) (h : List Entry) (e : Entry) → AddsNone c e → run_heard c (h ++ e ∷ []) ≡ run_heard c h
run_stays c h e adds = let same = run_heard-push c h e ∙ ap (λ l. max (run_heard c h) (greatest (map run_told l))) adds.hears_none in omega (arith, same)

consumed_stays : (c : ConnKey) (h : List Entry) (e : Entry) → AddsNone c e → consumed_heard c (h ++ e ∷ []) ≡ consumed_heard c h
consumed_stays c h e adds = let same = consumed_heard-push c h e ∙ ap (λ l. max (consumed_heard c h) (greatest (map consumed_told l))) adds.hears_none in omega (arith, same)

moved_not : (c : ConnKey) (h : List Entry) (e : Entry) (t : Timing) → ticks_by e.reply ≡ 0 → hears c e ≡ [] → moved c h e t ≡ t
moved_not c h e t still none =
    ap (λ n. cond (n == 0) (heard_then c h (h ++ e ∷ []) t (hears c e)) (timing_ticked (clock_of (h ++ e ∷ [])) t)) still ∙ ap (heard_then c h (h ++ e ∷ []) t) none

again_not : (c : ConnKey) (h : List Entry) (e : Entry) (t : Timing) → ticks_by e.reply ≡ 0 → hears c e ≡ [] → again_numbers c h e t ≡ []
again_not c h e t still none =
    ap (λ n. cond (n == 0) (listed_then c (h ++ e ∷ []) t (hears c e)) (due_numbers (clock_of (h ++ e ∷ [])) t.timers)) still ∙ ap (listed_then c (h ++ e ∷ []) t) none

pub queries_not : (c : ConnKey) (settings : Settings) (h : List Entry) (e : Entry) → ticks_by e.reply ≡ 0 → queries_then c settings h e ≡ []
queries_not c settings h e still = ap (λ n. cond (n == 0) [] (cond (query_due (clock_of (h ++ e ∷ [])) (timing_of c settings h).asked) (sent_upto c h ∷ []) [])) still

-- it emits nothing
pub rows_none : (place : Place) (h : List Entry) (e : Entry) (end : ConnEnd) → IsAtRest place h → end.sending ≡ true → IsHere end h → AddsNone end.key e → ticks_by e.reply ≡ 0 → rows_then end.key place.settings h e ≡ []
rows_none place h e end rest sends here adds still = by (stopped_of end.key (h ++ e ∷ [])) refl
  where
    by : (b : Bool) → stopped_of end.key (h ++ e ∷ []) ≡ b
        → cond b [] (rows_at (sealed_of end.key place.settings (h ++ e ∷ [])) (again_numbers end.key h e (timing_of end.key place.settings h)
        ++ numbers_behind (sent_upto end.key h) (fresh_count end.key place.settings h (h ++ e ∷ []) (moved end.key h e (timing_of end.key place.settings h)).window))) ≡ []
    by true is = refl
    by false is =
        let c = end.key in
        let settings = place.settings in
        let now = h ++ e ∷ [] in
        let t = timing_of c settings h in
        let drained = rest.drained end sends here (stopped_before c h e is) in
        let count : fresh_count c settings h now (moved c h e t).window ≡ 0 =
        ap (λ (x : Timing). fresh_count c settings h now x.window) (moved_not c h e t still adds.hears_none)
        ∙ ap (λ l. min (length l - sent_upto c h) (room_of t.window.window (sent_upto c h - run_heard c now) (settings.receive_depth - (sent_upto c h - consumed_heard c now)))) (sealed_stays c settings h e adds)
        ∙ ap (λ n. min (length (sealed_of c settings h) - sent_upto c h) (room_of t.window.window (sent_upto c h - n) (settings.receive_depth - (sent_upto c h - consumed_heard c now)))) (run_stays c h e adds)
        ∙ ap (λ n. min (length (sealed_of c settings h) - sent_upto c h) (room_of t.window.window (sent_upto c h - run_heard c h) (settings.receive_depth - (sent_upto c h - n)))) (consumed_stays c h e adds)
        ∙ drained.none_left in
        ap (λ l. rows_at (sealed_of c settings now) (l ++ numbers_behind (sent_upto c h) (fresh_count c settings h now (moved c h e t).window))) (again_not c h e t still adds.hears_none)
        ∙ ap (λ n. rows_at (sealed_of c settings now) (numbers_behind (sent_upto c h) n)) count

-- ---- what is emitted where no answer may be

-- a datagram is a packet of a sending end that is here: of rows, or its status query
pub data IsSentBy (settings : Settings) (h : List Entry) (d : Datagram) (end : ConnEnd) : Type 0 where
  SendsRow : (q : RowPacket) → rows_in end.key d ≡ q ∷ [] → d ≡ row_datagram end q → IsSentBy settings h d end
  SendsQuery : (n : ℕ) → queries_in end.key d ≡ n ∷ [] → d ≡ query_datagram end n → IsSentBy settings h d end

pub record IsSent (settings : Settings) (h : List Entry) (d : Datagram) : Type 0 where
  pub packet : Packet
  pub reads : packet_of d ≡ Some packet
  pub end : ConnEnd
  pub here : IsHere end h
  pub sends : end.sending ≡ true
  pub key : end.key ≡ key_of packet.head
  pub forth : goes_forth packet.head.flags ≡ true

formed_reads : (place : Place) (h : List Entry) (e : Entry) (d : Datagram) → HubPoint place h e → Contains (emits e) d → (p : Packet) × (packet_of d ≡ Some p)
unfolding packet_of
formed_reads place h e d point at = let f = point.formed d at in (f.packet, ap packet_read (reads_spelled f.packet.head f.packet.body d.bytes f.spelled))

pub sent_one : (place : Place) (h : List Entry) (e : Entry) (d : Datagram) → HubPoint place h e → (MayAnswer e.ask → ⊥) → Contains (emits e) d → IsSent place.settings h d
sent_one place h e d point silent at = let w = formed_reads place h e d point at in by w.0 w.1 (goes_forth w.0.head.flags) refl
  where
    by : (p : Packet) → packet_of d ≡ Some p → (b : Bool) → goes_forth p.head.flags ≡ b → IsSent place.settings h d
    by p reads true way =
        let emitted : Emits e (key_of p.head) p.head.flags p = record { datagram = d; stands = at; reads = reads; key = refl; flags_are = refl } in
        let s = point.forth (key_of p.head) p.head.flags p way emitted in
        record { packet = p; reads = reads; end = s.end; here = s.here; sends = s.sends; key = s.key; forth = way }
    by p reads false way = absurd (silent (point.back (key_of p.head) p.head.flags p way (record { datagram = d; stands = at; reads = reads; key = refl; flags_are = refl })))

pub sent_by : (place : Place) (h : List Entry) (e : Entry) (d : Datagram) → Contains (emits e) d → (w : IsSent place.settings h d) → EmitsDue place.settings w.end h e → IsSentBy place.settings h d w.end
sent_by place h e d at w due = elim (forth_cases w.packet.head.flags w.forth) [
  | inl rows ↦ let is = rows_is w.end.key d w.packet w.reads (sym w.key) rows in SendsRow _ is (due.row_datagrams d _ at is)
  | inr query ↦ let is = query_is w.end.key d w.packet w.reads (sym w.key) query in SendsQuery _ is (due.query_datagrams d _ at is)
]

-- ---- one connection alone

-- the entry concerns this sending end alone, which isn't to answer
pub record IsAlone (place : Place) (h : List Entry) (e : Entry) (x : ConnEnd) : Type 0 where
  pub point : HubPoint place h e
  pub due : (end : ConnEnd) → end.sending ≡ true → IsHere end h → EmitsDue place.settings end h e
  pub silent : MayAnswer e.ask → ⊥
  pub still : ticks_by e.reply ≡ 0
  pub others : (c : ConnKey) → c ≢ x.key → AddsNone c e

pub emits_alone : (place : Place) (h : List Entry) (e : Entry) (x : ConnEnd) → IsAtRest place h → x.sending ≡ true → IsHere x h → IsAlone place h e x → emits e ≡ map (row_datagram x) (rows_then x.key place.settings h e)
emits_alone place h e x rest sends here alone = all_rows x (emits e) each ∙ ap (map (row_datagram x)) (alone.due x sends here).rows
  where
    of : (d : Datagram) → Contains (emits e) d → (w : IsSent place.settings h d) → IsSentBy place.settings h d w.end → (q : RowPacket) × (rows_in x.key d ≡ q ∷ []) × (d ≡ row_datagram x q)
    of d at w (SendsRow q is made) = elim (told_key w.end.key x.key) [
      | inl same ↦ let read = subst (λ k. rows_in k d ≡ q ∷ []) same is in (q, read, (alone.due x sends here).row_datagrams d q at read)
      | inr other ↦ absurd (no_datagram (rows_in w.end.key) (emits e) d q ((alone.due w.end w.sends w.here).rows ∙ rows_none place h e w.end rest w.sends w.here (alone.others w.end.key other) alone.still) at is)
    ]
    of d at w (SendsQuery n is made) =
        absurd (no_datagram (queries_in w.end.key) (emits e) d n ((alone.due w.end w.sends w.here).queries ∙ queries_not w.end.key place.settings h e alone.still) at is)

    each : (d : Datagram) → Contains (emits e) d → (q : RowPacket) × (rows_in x.key d ≡ q ∷ []) × (d ≡ row_datagram x q)
    each d at = let w = sent_one place h e d alone.point alone.silent at in of d at w (sent_by place h e d at w (alone.due w.end w.sends w.here))

-- two such entries, alike for the end, emit the same
pub emits_same : (place : Place) (h : List Entry) (a b : Entry) (x : ConnEnd) → IsAtRest place h → x.sending ≡ true → IsHere x h → IsAlone place h a x → IsAlone place h b x → Alike x.key a b → emits a ≡ emits b
emits_same place h a b x rest sends here alone_a alone_b alike =
    emits_alone place h a x rest sends here alone_a ∙ ap (map (row_datagram x)) (rows_alike x.key place.settings h a b alike) ∙ sym (emits_alone place h b x rest sends here alone_b)
