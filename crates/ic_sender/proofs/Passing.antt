-- Entries that leave a connection as it is, and what each entry keeps of the law.
use Rattle.std.proofs.Common.{◌≡◌, ℕ, ◌+◌, ◌-◌, min, max, List, [], ◌∷◌, ◌++◌, map, Bool, true, false, cond, ◌||◌, ◌==◌, Option, Some, None, refl, ap, sym, ◌∙◌, subst, arith, inl, inr, ◌⊎◌, append-nil, slice_get}
use Rattle.std.specs.Prelude.{filter}
use Rattle.std.proofs.lemmas.List.Elements.{Contains-append_cases}
use Rattle.ic_base.specs.Settings.{AreChecked}
use Rattle.ic_chunk.specs.Assembly.{together}
use Rattle.std.specs.List.{flat_map, Contains, list_any}
use Rattle.ic_base.specs.declared.keys.ConnEnd.{ConnEnd}
use Rattle.ic_base.specs.declared.keys.ConnKey.{ConnKey}
use Rattle.ic_base.specs.declared.settings.Settings.{Settings}
use Rattle.ic_base.specs.declared.datagram.Datagram.{Datagram}
use Rattle.ic_expire.specs.declared.item.Item.{Item}
use Rattle.ic_law.specs.declared.history.Entry.{Entry}
use Rattle.ic_law.specs.declared.history.HubAsk.{HubAsk}
use Rattle.ic_law.specs.declared.history.HubReply.{HubReply}
use Rattle.ic_header.specs.Packets.{RowPacket, row_datagram}
use Rattle.ic_law.specs.History.{emits, emitted_of, rows_in, rows_emitted_of, number_of, sent_upto, greatest}
use Rattle.ic_law.specs.Putting.{puts, chunks_put_of, finishes, finished_of}
use Rattle.ic_law.specs.Hearing.{hears, stopped_of, run_heard, consumed_heard, run_told, consumed_told, is_stop}
use Rattle.ic_law.specs.Filling.{Sealed, filling, sealed, sealed_of}
use Rattle.ic_law.specs.Points.{Every, SameAgain, Sends, SentUpto, IsHere}
use Rattle.ic_law.specs.Sending.{Refuses}
use Rattle.ic_law.specs.Clock.{clock_of, last_tick, ticks_by, ticks_of}
use Rattle.ic_law.specs.Timers.{Asked, Timing, timing_ticked, wait_in, due_numbers}
use Rattle.ic_law.specs.Timing.{timing_of, settled, heard_then, moved, rows_at, numbers_behind}
use Rattle.ic_law.specs.Emitting.{emitted_numbers, rows_then, again_numbers, listed_then, queries_in, queries_then, query_due}
use Rattle.ic_law.specs.Spending.{has_no_try, spent_query, NoneSpent}
use Rattle.ic_law.specs.Emission.{EmitsDue}
use Rattle.ic_law.proofs.Lists.{Contains-none, flat_map-Contains, Contains-head}
use Rattle.ic_law.proofs.Readings.{every_push, emitted_of-push, rows_emitted_of-push, chunks_put_of-push, finished_of-push, stopped_of-push, run_heard-push, consumed_heard-push}
use Rattle.ic_law.proofs.Timings.{timing_of-push, ticks_of-push}
use Rattle.ic_sender.specs.declared.flight.Flight.{Flight}
use Rattle.ic_sender.specs.Sending.{Sending, rows_kept, count_next, rows_next, flight_of, asked_next, emitting, waits_next, waiting}
use Rattle.ic_sender.specs.Entries.{IsNothingOf}
use Rattle.ic_sender.specs.Standing.{IsNamed, Mirrors, IsSettled, IsStill, Reflects, KeepsSending, Stands}
use Rattle.ic_sender.proofs.Sent.{fills_by}
use Rattle.ic_sender.proofs.Emitting.{Ready}

-- an entry is its ask and its reply
pub entry_is : (e : Entry) (ask : HubAsk) (reply : HubReply) → e.ask ≡ ask → e.reply ≡ reply → e ≡ record { ask = ask; reply = reply }
entry_is e ask reply a r = ap (λ x. entry x e.reply) a ∙ ap (λ x. entry ask x) r
  where
    entry : HubAsk → HubReply → Entry
    entry a r = record { ask = a; reply = r }

-- ---- the law

same_packet : (packets : List Sealed) (rows : List RowPacket) (k : ℕ) (p q : RowPacket) → SentUpto packets rows k → Contains rows p → Contains rows q → p.seq ≡ q.seq → p ≡ q
same_packet packets rows k p q sent at_p at_q same =
    let a = (sent.each p at_p).2 in
    let b = (sent.each q at_q).2 in
    let both : Some (record { payload = p.payload; last = p.last }) ≡ Some (record { payload = q.payload; last = q.last }) = sym a ∙ ap (λ n. slice_get packets (n - 1)) same ∙ b in
    let inner : record { payload = p.payload; last = p.last } ≡ record { payload = q.payload; last = q.last } = cc in
    ap (λ n. row n p.payload p.last) same ∙ ap (λ (s : Sealed). row q.seq s.payload s.last) inner
  where
    row : ℕ → List ℕ → Bool → RowPacket
    row n payload last = record { seq = n; payload = payload; last = last }

-- whatever holds only where the end is there
pub keeps_when : (s : Sending) (held : List Item) (h : List Entry) (e : Entry) → Every (KeepsSending s.settings s.end) h → Reflects s held (h ++ e ∷ []) → (IsHere s.end h → Refuses s.settings s.end h e) → (IsHere s.end h → EmitsDue s.settings s.end h e)
    → Stands s held (h ++ e ∷ [])
keeps_when s held h e law reflects refuses emits_due =
    let c = s.end.key in
    let now = h ++ e ∷ [] in
    let same : SameAgain c now = (λ d other p q at_d at_o reads_d reads_o numbers.
    let there_p = flat_map-Contains (rows_in c) (emitted_of now) d p at_d (subst (λ l. Contains l p) (sym reads_d) (Contains-head p [])) in
    let there_q = flat_map-Contains (rows_in c) (emitted_of now) other q at_o (subst (λ l. Contains l q) (sym reads_o) (Contains-head q [])) in
    reflects.made d p at_d reads_d ∙ ap (row_datagram s.end) (same_packet (sealed_of c s.settings now) (rows_emitted_of c now) s.sent p q reflects.sent there_p there_q numbers)
    ∙ sym (reflects.made other q at_o reads_o)) in
    let sends : Sends c now = record {
      packets = sealed_of c s.settings now;
      k = s.sent;
      sent = reflects.sent;
      fills = fills_by s.settings.packet (chunks_put_of c now) (finished_of c now) (finished_of c now ≡ true) (λ is. is);
    } in
    record {
      law = every_push (KeepsSending s.settings s.end) h e law (record { same = same; sent = sends; refuses = refuses; emits = emits_due });
      reflects = reflects;
    }

pub keeps_law : (s : Sending) (held : List Item) (h : List Entry) (e : Entry) → Every (KeepsSending s.settings s.end) h → Reflects s held (h ++ e ∷ []) → (IsHere s.end h → Refuses s.settings s.end h e) → EmitsDue s.settings s.end h e
    → Stands s held (h ++ e ∷ [])
keeps_law s held h e law reflects refuses emits_due = keeps_when s held h e law reflects refuses (λ here. emits_due)

-- ---- an entry that adds nothing

or_false : (b : Bool) → (b || false) ≡ b
or_false true = refl
or_false false = refl

pub chunks_stay : (c : ConnKey) (h : List Entry) (e : Entry) → puts c e ≡ [] → chunks_put_of c (h ++ e ∷ []) ≡ chunks_put_of c h
chunks_stay c h e none = chunks_put_of-push c h e ∙ ap (λ l. chunks_put_of c h ++ l) none ∙ append-nil (chunks_put_of c h)

pub finished_stays : (c : ConnKey) (h : List Entry) (e : Entry) → finishes c e ≡ false → finished_of c (h ++ e ∷ []) ≡ finished_of c h
finished_stays c h e none = finished_of-push c h e ∙ ap (λ b. finished_of c h || b) none ∙ or_false (finished_of c h)

pub stopped_stays : (c : ConnKey) (h : List Entry) (e : Entry) → list_any is_stop (hears c e) ≡ false → stopped_of c (h ++ e ∷ []) ≡ stopped_of c h
stopped_stays c h e none = stopped_of-push c h e ∙ ap (λ b. stopped_of c h || b) none ∙ or_false (stopped_of c h)

pub sealed_stays : (c : ConnKey) (settings : Settings) (h : List Entry) (e : Entry) → puts c e ≡ [] → finishes c e ≡ false → sealed_of c settings (h ++ e ∷ []) ≡ sealed_of c settings h
sealed_stays c settings h e none_put none_finished =
    ap (λ l. sealed (filling settings.packet l) (finished_of c (h ++ e ∷ []))) (chunks_stay c h e none_put) ∙ ap (sealed (filling settings.packet (chunks_put_of c h))) (finished_stays c h e none_finished)

pub run_stays : (c : ConnKey) (h : List Entry) (e : Entry) → hears c e ≡ [] → run_heard c (h ++ e ∷ []) ≡ run_heard c h
run_stays c h e none = let same = run_heard-push c h e ∙ ap (λ l. max (run_heard c h) (greatest (map run_told l))) none in omega (arith, same)

pub consumed_stays : (c : ConnKey) (h : List Entry) (e : Entry) → hears c e ≡ [] → consumed_heard c (h ++ e ∷ []) ≡ consumed_heard c h
consumed_stays c h e none = let same = consumed_heard-push c h e ∙ ap (λ l. max (consumed_heard c h) (greatest (map consumed_told l))) none in omega (arith, same)

pub clock_stays : (h : List Entry) (e : Entry) → ticks_by e.reply ≡ 0 → clock_of (h ++ e ∷ []) ≡ clock_of h
clock_stays h e none = ap (λ n. min last_tick n) (ticks_of-push h e ∙ (let same : ticks_of h + ticks_by e.reply ≡ ticks_of h = omega (arith, none) in same))

pub moved_not : (c : ConnKey) (h : List Entry) (e : Entry) (t : Timing) → ticks_by e.reply ≡ 0 → hears c e ≡ [] → moved c h e t ≡ t
moved_not c h e t still none =
    ap (λ n. cond (n == 0) (heard_then c h (h ++ e ∷ []) t (hears c e)) (timing_ticked (clock_of (h ++ e ∷ [])) t)) still ∙ ap (heard_then c h (h ++ e ∷ []) t) none

pub again_not : (c : ConnKey) (h : List Entry) (e : Entry) (t : Timing) → ticks_by e.reply ≡ 0 → hears c e ≡ [] → again_numbers c h e t ≡ []
again_not c h e t still none =
    ap (λ n. cond (n == 0) (listed_then c (h ++ e ∷ []) t (hears c e)) (due_numbers (clock_of (h ++ e ∷ [])) t.timers)) still ∙ ap (listed_then c (h ++ e ∷ []) t) none

pub queries_not : (c : ConnKey) (settings : Settings) (h : List Entry) (e : Entry) → ticks_by e.reply ≡ 0 → queries_then c settings h e ≡ []
queries_not c settings h e still = ap (λ n. cond (n == 0) [] (cond (query_due (clock_of (h ++ e ∷ [])) (timing_of c settings h).asked) (sent_upto c h ∷ []) [])) still

-- what emits no packet of rows, and no status query, has no datagram of either
pub no_datagram : {A : Type 0} (read : Datagram → List A) (ds : List Datagram) (d : Datagram) (x : A) → flat_map read ds ≡ [] → Contains ds d → read d ≡ x ∷ [] → ⊥
no_datagram read ds d x none at reads =
    Contains-none x (subst (λ l. Contains l x) none (flat_map-Contains read ds d x at (subst (λ l. Contains l x) (sym reads) (Contains-head x []))))

-- ---- a settled connection

with_more : Sending → ℕ → List Flight → Option Asked → Sending
with_more s n flights asked = record s { sent = s.sent + n; flights = s.flights ++ flights; asked = asked }

pub settled_stays : (s : Sending) (now : ℕ) → IsSettled s → emitting now s ≡ s
unfolding with_more
settled_stays s now settled =
    let rows : rows_next s ≡ [] = ap (λ n. rows_kept s.kept (numbers_behind s.sent n)) settled.none in
    let asked : asked_next now (record s { sent = s.sent + count_next s }) ≡ s.asked =
    ap (λ n. asked_next now (record s { sent = n })) (let e : s.sent + count_next s ≡ s.sent = omega (arith, settled.none) in e) ∙ settled.query now in
    ap (λ l. with_more s (count_next s) (map (flight_of s.end now) l) (asked_next now (record s { sent = s.sent + count_next s }))) rows
    ∙ ap (λ n. with_more s n [] (asked_next now (record s { sent = s.sent + count_next s }))) settled.none
    ∙ ap (λ a. with_more s 0 [] a) asked
    ∙ ap (λ n. record s { sent = n; flights = s.flights ++ [] }) (let e : s.sent + 0 ≡ s.sent = omega arith in e)
    ∙ ap (λ l. record s { flights = l }) (append-nil s.flights)

pub settled_rows : (s : Sending) → IsSettled s → rows_next s ≡ []
settled_rows s settled = ap (λ n. rows_kept s.kept (numbers_behind s.sent n)) settled.none

pub settled_waits : (s : Sending) (now : ℕ) (held : List Item) → IsSettled s → waits_next now s held ≡ held
settled_waits s now held settled = ap (λ l. waiting s.conn (now + wait_in s.window 0) (map number_of l) held) (settled_rows s settled)

-- ---- nothing happens

-- what is ready is ready still
pub stays_ready : (s : Sending) (held : List Item) (h : List Entry) (e : Entry) → s.stopped ≡ false → IsNothingOf s.end.key e → ticks_by e.reply ≡ 0 → Reflects s held h → Ready s held h e
stays_ready s held h e running nothing still old =
    let c = s.end.key in
    let now = h ++ e ∷ [] in
    let runs = old.runs running in
    let packets : sealed_of c s.settings now ≡ sealed_of c s.settings h = sealed_stays c s.settings h e nothing.puts_none nothing.finishes_none in
    let timing : moved c h e (timing_of c s.settings h) ≡ timing_of c s.settings h = moved_not c h e (timing_of c s.settings h) still nothing.hears_none in
    let clock : clock_of now ≡ clock_of h = clock_stays h e still in
    record {
      names = old.names;
      checked = old.checked;
      running = running;
      runs = stopped_stays c h e (ap (list_any is_stop) nothing.hears_none) ∙ old.stopped ∙ running;
      reads = record {
        finished = finished_stays c h e nothing.finishes_none ∙ runs.reads.finished;
        opened = λ on. ap (λ l. together (filling s.settings.packet l).opened) (chunks_stay c h e nothing.puts_none) ∙ runs.reads.opened on;
        least = runs.reads.least;
        most = runs.reads.most;
        run = run_stays c h e nothing.hears_none ∙ runs.reads.run;
        consumed = consumed_stays c h e nothing.hears_none ∙ runs.reads.consumed;
      };
      mirrors = subst (λ l. Mirrors s held l (moved c h e (timing_of c s.settings h)) (clock_of now)) (sym packets)
          (subst (λ t. Mirrors s held (sealed_of c s.settings h) t (clock_of now)) (sym timing)
          (subst (λ n. Mirrors s held (sealed_of c s.settings h) (timing_of c s.settings h) n) (sym clock) runs.mirrors));
      sent = subst (λ l. SentUpto l (rows_emitted_of c h) s.sent) (sym packets) old.sent;
      made = old.made;
    }

-- an entry that isn't a tick emits these packets of rows, and no status query
pub record EmitsRows (s : Sending) (rows : List RowPacket) (h : List Entry) (e : Entry) : Type 0 where
  pub still : ticks_by e.reply ≡ 0
  pub rows_are : flat_map (rows_in s.end.key) (emits e) ≡ rows
  pub made : (d : Datagram) (p : RowPacket) → Contains (emits e) d → rows_in s.end.key d ≡ p ∷ [] → d ≡ row_datagram s.end p
  pub queries : flat_map (queries_in s.end.key) (emits e) ≡ []

pub plain_due : (s : Sending) (rows : List RowPacket) (h : List Entry) (e : Entry) → EmitsRows s rows h e → rows ≡ rows_then s.end.key s.settings h e → EmitsDue s.settings s.end h e
plain_due s rows h e is same = record {
  rows = is.rows_are ∙ same;
  row_datagrams = is.made;
  queries = is.queries ∙ sym (queries_not s.end.key s.settings h e is.still);
  query_datagrams = λ d n at reads. absurd (no_datagram (queries_in s.end.key) (emits e) d n is.queries at reads);
  unspent = λ one. absurd (let bad : 0 ≡ 1 = sym is.still ∙ one in omega (arith, bad));
}

pub emits_nothing : (s : Sending) (h : List Entry) (e : Entry) → IsNothingOf s.end.key e → ticks_by e.reply ≡ 0 → EmitsRows s [] h e
emits_nothing s h e nothing still = record {
  still = still;
  rows_are = nothing.rows;
  made = λ d p at reads. absurd (no_datagram (rows_in s.end.key) (emits e) d p nothing.rows at reads);
  queries = nothing.queries;
}

-- ---- stopped

timing_stopped : (m : Sending) (c : ConnKey) (settings : Settings) (h : List Entry) (e : Entry) → m.flights ≡ [] → m.asked ≡ None → stopped_of c (h ++ e ∷ []) ≡ true → IsStill m (timing_of c settings (h ++ e ∷ []))
timing_stopped m c settings h e flights query off =
    let now : timing_of c settings (h ++ e ∷ []) ≡ record (timing_of c settings h) { timers = []; asked = None } =
    timing_of-push c settings h e ∙ ap (λ b. cond b (record (timing_of c settings h) { timers = []; asked = None }) (settled c settings h (h ++ e ∷ []) (moved c h e (timing_of c settings h)))) off in
    record { flights = flights; query = query; timers = ap (λ (t : Timing). t.timers) now; asked = ap (λ (t : Timing). t.asked) now }

-- a stopped connection stays so, whatever it hears, and at every tick
pub record PassesStopped (s : Sending) (h : List Entry) (e : Entry) : Type 0 where
  pub puts_none : puts s.end.key e ≡ []
  pub finishes_none : finishes s.end.key e ≡ false
  pub rows : flat_map (rows_in s.end.key) (emits e) ≡ []
  pub queries : flat_map (queries_in s.end.key) (emits e) ≡ []

-- what is stopped after an entry that emits nothing is what the history says of it
pub reflects_stopped : (s m : Sending) (held left : List Item) (h : List Entry) (e : Entry) → m.end ≡ s.end → m.settings ≡ s.settings → m.sent ≡ s.sent → m.stopped ≡ true → m.flights ≡ [] → m.asked ≡ None → stopped_of s.end.key (h ++ e ∷ []) ≡ true
    → PassesStopped s h e → Reflects s held h → Reflects m left (h ++ e ∷ [])
reflects_stopped s m held left h e end settings sent off flights query now_off passes old =
    let c = s.end.key in
    let now = h ++ e ∷ [] in
    let packets : sealed_of c s.settings now ≡ sealed_of c s.settings h = sealed_stays c s.settings h e passes.puts_none passes.finishes_none in
    let rows : rows_emitted_of c now ≡ rows_emitted_of c h = rows_emitted_of-push c h e ∙ ap (λ l. rows_emitted_of c h ++ l) passes.rows ∙ append-nil (rows_emitted_of c h) in
    let all : SentUpto (sealed_of c s.settings now) (rows_emitted_of c now) s.sent = subst (λ l. SentUpto l (rows_emitted_of c now) s.sent) (sym packets) (subst (λ l. SentUpto (sealed_of c s.settings h) l s.sent) (sym rows) old.sent) in
    record {
      names = subst IsNamed (sym end) old.names;
      checked = subst AreChecked (sym settings) old.checked;
      sent = subst (λ (x : ConnEnd). SentUpto (sealed_of x.key m.settings now) (rows_emitted_of x.key now) m.sent) (sym end)
          (subst (λ x. SentUpto (sealed_of c x now) (rows_emitted_of c now) m.sent) (sym settings) (subst (λ k. SentUpto (sealed_of c s.settings now) (rows_emitted_of c now) k) (sym sent) all));
      made = λ d p at reads.
          let reads_s : rows_in c d ≡ p ∷ [] = ap (λ (x : ConnEnd). rows_in x.key d) (sym end) ∙ reads in
          let is : d ≡ row_datagram s.end p = elim (Contains-append_cases (emitted_of h) (emits e) d (subst (λ l. Contains l d) (emitted_of-push h e) at)) [
            | inl before ↦ old.made d p before reads_s
            | inr here ↦ absurd (no_datagram (rows_in c) (emits e) d p passes.rows here reads_s)
          ] in
          is ∙ ap (λ (x : ConnEnd). row_datagram x p) (sym end);
      stopped = ap (λ (x : ConnEnd). stopped_of x.key now) end ∙ now_off ∙ sym off;
      runs = λ on. absurd (let bad : true ≡ false = sym off ∙ on in cc);
      still = λ is_off. subst (λ (x : ConnEnd). IsStill m (timing_of x.key m.settings now)) (sym end)
          (subst (λ x. IsStill m (timing_of c x now)) (sym settings) (timing_stopped m c s.settings h e flights query now_off));
    }

-- and emits what the law wants: nothing
pub stopped_due : (s : Sending) (h : List Entry) (e : Entry) → stopped_of s.end.key (h ++ e ∷ []) ≡ true → (ticks_by e.reply ≡ 0) ⊎ IsStill s (timing_of s.end.key s.settings h) → PassesStopped s h e → EmitsDue s.settings s.end h e
stopped_due s h e off quiet passes =
    let c = s.end.key in
    record {
      rows = passes.rows ∙ sym (ap (λ b. cond b [] (rows_at (sealed_of c s.settings (h ++ e ∷ [])) (emitted_numbers c s.settings h e (timing_of c s.settings h)))) off);
      row_datagrams = λ d p at reads. absurd (no_datagram (rows_in c) (emits e) d p passes.rows at reads);
      queries = passes.queries ∙ sym (none quiet);
      query_datagrams = λ d n at reads. absurd (no_datagram (queries_in c) (emits e) d n passes.queries at reads);
      unspent = λ one. unspent quiet one;
    }
  where
    none : (ticks_by e.reply ≡ 0) ⊎ IsStill s (timing_of s.end.key s.settings h) → queries_then s.end.key s.settings h e ≡ []
    none (inl still) = queries_not s.end.key s.settings h e still
    none (inr still) = ap (λ a. cond (ticks_by e.reply == 0) [] (cond (query_due (clock_of (h ++ e ∷ [])) a) (sent_upto s.end.key h ∷ []) [])) still.asked ∙ both (ticks_by e.reply == 0)
      where
        both : (b : Bool) → cond {A = List ℕ} b [] [] ≡ []
        both true = refl
        both false = refl

    unspent : (ticks_by e.reply ≡ 0) ⊎ IsStill s (timing_of s.end.key s.settings h) → ticks_by e.reply ≡ 1 → NoneSpent s.settings s.end.key h
    unspent (inl still) one = absurd (let bad : 0 ≡ 1 = sym still ∙ one in omega (arith, bad))
    unspent (inr still) one =
        let clock = min last_tick (ticks_of h + 1) in
        record {
          packets = ap (λ l. filter (has_no_try s.settings clock) l) still.timers;
          query = ap (spent_query s.settings clock) still.asked;
        }
