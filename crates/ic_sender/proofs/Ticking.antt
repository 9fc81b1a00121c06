-- A connection stands for a tick.
use Rattle.std.proofs.Common.{◌≡◌, ℕ, ◌+◌, ◌-◌, ◌<◌, ◌≤◌, ◌^◌, min, List, [], ◌∷◌, ◌++◌, length, map, Bool, true, false, cond, ◌&&◌, ◌||◌, ◌==◌, Option, Some, None, Ok, refl, ap, sym, ◌∙◌, subst, arith, inl, inr, append-nil}
use Rattle.std.specs.Prelude.{nat_lt, nat_le, filter, find}
use Rattle.std.specs.List.{flat_map, Contains, list_any}
use Rattle.std.specs.Option.{option_map}
use Rattle.std.proofs.lemmas.Bool.{cases_Bool, leb-false}
use Rattle.std.proofs.lemmas.List.Elements.{Contains-append_cases}
use Rattle.ic_base.specs.declared.keys.ConnEnd.{ConnEnd}
use Rattle.ic_base.specs.declared.keys.ConnKey.{ConnKey}
use Rattle.ic_base.specs.declared.datagram.Datagram.{Datagram}
use Rattle.ic_chunk.specs.Assembly.{together}
use Rattle.ic_expire.specs.declared.item.Item.{Item}
use Rattle.ic_expire.specs.Items.{is_due as is_over}
use Rattle.ic_expire.specs.Queue.{without, held_of}
use Rattle.ic_expire.proofs.Holding.{rest_holds}
use Rattle.ic_window.specs.State.{WindowState}
use Rattle.ic_window.specs.Window.{room_of}
use Rattle.ic_window.specs.Waiting.{wait_of}
use Rattle.ic_law.specs.declared.history.HubAsk.TheVariants.{Put, Finish, Arrive, Tick}
use Rattle.ic_law.specs.declared.history.HubReply.TheVariants.{Ticked}
use Rattle.ic_law.specs.declared.history.Entry.{Entry}
use Rattle.ic_header.specs.Packets.{RowPacket, row_datagram, query_datagram}
use Rattle.ic_law.specs.History.{rows_in, rows_emitted_of, sent_upto}
use Rattle.ic_law.specs.Hearing.{hears, stopped_of}
use Rattle.ic_law.specs.Filling.{Sealed, filling, sealed_of}
use Rattle.ic_law.specs.Numbers.{IsIncreasingFrom}
use Rattle.ic_law.specs.Points.{Every, SentUpto}
use Rattle.ic_law.specs.Sending.{Refuses}
use Rattle.ic_law.specs.Clock.{clock_of, last_tick, ticks_of}
use Rattle.ic_law.specs.Timers.{Timer, Asked, Timing, timing_ticked, lost_where, is_due, due_numbers, asked_again, wait_in}
use Rattle.ic_law.specs.Timing.{timing_of, standing, rows_at}
use Rattle.ic_law.specs.Emitting.{again_numbers, queries_in, queries_then, query_due}
use Rattle.ic_law.specs.Spending.{has_no_try, spent_timers, spent_query, NoneSpent}
use Rattle.ic_law.specs.Emission.{EmitsDue}
use Rattle.ic_law.specs.Armed.{IsSoon}
use Rattle.ic_law.specs.Timers.{tried as tried_in, is_among as stands_among}
use Rattle.ic_law.proofs.Lists.{Contains-none, Contains-one, Contains-head, Contains-tail, head_or_tail, Contains-map, map-Contains, flat_map-append}
use Rattle.ic_law.proofs.Readings.{stopped_of-push}
use Rattle.ic_law.proofs.Timings.{ticks_of-push}
use Rattle.ic_sender.specs.declared.flight.Flight.{Flight}
use Rattle.ic_sender.specs.Sending.{Sending, capacity, rows_next, emitting, waits_next, flight_at, copies, counted, is_among, spent_of, tried, trying, tries_of, waits_longer}
use Rattle.ic_sender.specs.Sending.{has_no_try as is_spent_here}
use Rattle.ic_sender.specs.Calls.{is_unanswered, queries_next, queries_when}
use Rattle.ic_sender.specs.Entries.{AreAmong, IsTicking, Ticks, tried_when, queried_when}
use Rattle.ic_sender.specs.Standing.{IsNamed, Waits, Alike, item_of, Mirrors, IsSettled, Runs, Reflects, KeepsSending, Stands}
use Rattle.ic_sender.proofs.Lists.{same_number, in_behind, map_map, map_same, map_self, in_filter, filter_has}
use Rattle.ic_sender.proofs.Sent.{greatest_sent}
use Rattle.ic_sender.proofs.Carrying.{AllTravel, rows_again, rows_ask_nothing, rows_made, query_again, query_has_no_rows}
use Rattle.ic_sender.proofs.Emitting.{Ready, rows_travel, emits_on, rows_are, waits_soon}
use Rattle.ic_sender.proofs.Passing.{entry_is, keeps_law, chunks_stay, finished_stays, sealed_stays, run_stays, consumed_stays, stopped_stays, settled_stays, settled_rows, settled_waits, PassesStopped, reflects_stopped, stopped_due}
use Rattle.ic_sender.proofs.Pairs.{alike_in, alike_map, copies_are, HasLeast, least_lost, lost_waits_one, lost_less_one}
use Rattle.ic_sender.proofs.Hearing.{timer_among, list_any-has}
use Rattle.ic_sender.proofs.Dues.{alike_seqs, alike_timer, seqs_increase, numbers_due, passes_among, find_itself, to_conn, from_conn, later_item, longer_keeps, longer_has, longer_is}

-- ---- what a tick makes of a connection

abbrev pub ticked_as : ℕ → List ℕ → Sending → ℕ → Sending
ticked_as now numbers s resent =
    record s {
      flights = map (tried numbers) s.flights;
      window = lost_where numbers s.window;
      asked = option_map (asked_again now s.window) s.asked;
      resent = resent;
    }

not_due : (now : ℕ) (w : WindowState) (o : Option Asked) → query_due now o ≡ false → o ≡ option_map (asked_again now w) o
not_due now w None h = refl
not_due now w (Some a) h = ap Some (sym (ap (λ b. cond b (record { due = now + wait_in w (a.tries + 1); tries = a.tries + 1 }) a) h))

again_same : (now : ℕ) (v w : WindowState) (o : Option Asked) → v.round_trip ≡ w.round_trip → option_map (asked_again now v) o ≡ option_map (asked_again now w) o
again_same now v w None same = refl
again_same now v w (Some a) same = ap (λ r. Some (cond (nat_le a.due now) (record { due = now + wait_of (a.tries + 1) r; tries = a.tries + 1 }) a)) same

not_tried : (f : Flight) → tried [] f ≡ f
not_tried f = refl

queried_as : (now : ℕ) (s x : Sending) → x.asked ≡ s.asked → x.window.round_trip ≡ s.window.round_trip → queried_when (query_due now s.asked) now x ≡ record x { asked = option_map (asked_again now s.window) s.asked }
queried_as now s x asked same = by (query_due now s.asked) refl
  where
    by : (b : Bool) → query_due now s.asked ≡ b → queried_when b now x ≡ record x { asked = option_map (asked_again now s.window) s.asked }
    by true e = ap (λ o. record x { asked = o }) (again_same now x.window s.window x.asked same ∙ ap (option_map (asked_again now s.window)) asked)
    by false e = ap (λ o. record x { asked = o }) (asked ∙ not_due now s.window s.asked e)

waits_same : (numbers : List ℕ) (w : WindowState) → (lost_where numbers w).round_trip ≡ w.round_trip
waits_same [] w = refl
waits_same (n ∷ numbers) w = lost_waits_one w

no_copies : (numbers : List ℕ) → copies [] numbers ≡ []
no_copies [] = refl
no_copies (n ∷ numbers) = no_copies numbers

pub ticks_as : (now : ℕ) (numbers : List ℕ) (s : Sending) → (resent : ℕ) × (queried_when (query_due now s.asked) now (tried_when numbers s) ≡ ticked_as now numbers s resent)
ticks_as now [] s = (
  s.resent,
  queried_as now s s refl refl
      ∙ ap (λ l. record s { flights = l; asked = option_map (asked_again now s.window) s.asked }) (sym (map_self (tried []) s.flights not_tried)),
)
ticks_as now (n ∷ numbers) s = (counted s.resent (length (n ∷ numbers)), queried_as now s (trying (n ∷ numbers) s) refl (waits_same (n ∷ numbers) s.window))

-- ---- what waits, and the timers

-- how the queue's part of one connection is known after the tick
waits_to : (now : ℕ) (s : Sending) (held left : List Item) (numbers : List ℕ) → held_of s.conn left ≡ held_of s.conn (waits_longer now s numbers (without (is_over now) held))
    → (y : Item) → y.conn ≡ s.conn → Contains (waits_longer now s numbers (without (is_over now) held)) y → Contains left y
waits_to now s held left numbers same y mine at = from_conn s.conn left y (subst (λ l. Contains l y) (sym same) (to_conn s.conn (waits_longer now s numbers (without (is_over now) held)) y at mine))

waits_from : (now : ℕ) (s : Sending) (held left : List Item) (numbers : List ℕ) → held_of s.conn left ≡ held_of s.conn (waits_longer now s numbers (without (is_over now) held))
    → (y : Item) → y.conn ≡ s.conn → Contains left y → Contains (waits_longer now s numbers (without (is_over now) held)) y
waits_from now s held left numbers same y mine at = from_conn s.conn (waits_longer now s numbers (without (is_over now) held)) y (subst (λ l. Contains l y) same (to_conn s.conn left y at mine))

tried_seq : (numbers : List ℕ) (f : Flight) → (tried numbers f).seq ≡ f.seq
tried_seq numbers f = by (is_among numbers f.seq)
  where
    by : (b : Bool) → (cond b (record f { tries = f.tries + 1; resent = true }) f).seq ≡ f.seq
    by true = refl
    by false = refl

-- a pair is a pair after the tick
tried_pair : (now : ℕ) (s : Sending) (packets : List Sealed) (held left : List Item) (numbers : List ℕ) (clock : ℕ) (w : WindowState) (f : Flight) (t : Timer) → w ≡ s.window → clock ≤ now → now ≤ clock + 1
    → held_of s.conn left ≡ held_of s.conn (waits_longer now s numbers (without (is_over now) held)) → is_among numbers f.seq ≡ is_due now t → (is_due now t ≡ true → Contains numbers f.seq) → flight_at s.flights f.seq ≡ Some f
    → Waits s.end packets s.conn held clock f t → Waits s.end packets s.conn left now (tried numbers f) (tried_in now w t)
tried_pair now s packets held left numbers clock w f t window low high same among there found old =
    subst (λ b. Waits s.end packets s.conn left now (cond b (record f { tries = f.tries + 1; resent = true }) f) (tried_in now w t)) (sym among) (by (is_due now t) refl)
  where
    by : (b : Bool) → is_due now t ≡ b → Waits s.end packets s.conn left now (cond b (record f { tries = f.tries + 1; resent = true }) f) (cond b (record t { due = now + wait_in w (t.tries + 1); tries = t.tries + 1; resent = true }) t)
    by true e =
        let item : later_item now s f.seq ≡ record { due = now + wait_in w (t.tries + 1); conn = s.conn; seq = t.seq } =
        ap (λ o. item_for (now + wait_in s.window (tries_of o + 1)) f.seq) found ∙ ap (λ k. item_for (now + wait_in s.window (k + 1)) f.seq) (sym old.tries)
        ∙ ap (λ v. item_for (now + wait_in v (t.tries + 1)) f.seq) (sym window) ∙ ap (λ k. item_for (now + wait_in w (t.tries + 1)) k) (sym old.seq) in
        record {
          seq = old.seq;
          tries = ap (λ k. k + 1) old.tries;
          since = old.since;
          resent = refl;
          waits = waits_to now s held left numbers same (record { due = now + wait_in w (t.tries + 1); conn = s.conn; seq = t.seq }) refl
              (subst (Contains (waits_longer now s numbers (without (is_over now) held))) item (longer_has now s numbers (without (is_over now) held) f.seq (there e)));
          soon = waits_soon w (t.tries + 1) now;
          same = old.same;
        }
      where
        item_for : ℕ → ℕ → Item
        item_for due seq = record { due = due; conn = s.conn; seq = seq }
    by false e =
        let beyond = leb-false t.due now e in
        record {
          seq = old.seq;
          tries = old.tries;
          since = old.since;
          resent = old.resent;
          waits = waits_to now s held left numbers same (item_of s.conn t) refl (longer_keeps now s numbers (without (is_over now) held) (item_of s.conn t) ((rest_holds held (is_over now) (item_of s.conn t)).1 (old.waits, e)));
          soon = record { later = omega (arith, beyond); near = omega (arith, old.soon.near, low) };
          same = old.same;
        }

-- what was due is emitted again, in this order
pub due_are : (now : ℕ) (s : Sending) (packets : List Sealed) (held : List Item) (t : Timing) (clock : ℕ) (mine : List Datagram) (new : Sending) (left : List Item) (ticks : Ticks now s held mine new left)
    → Mirrors s held packets t clock → ticks.numbers ≡ due_numbers now t.timers
due_are now s packets held t clock mine new left ticks old =
    numbers_due s.conn now s.acked held t.timers ticks.numbers (increase now s packets held t clock old) ticks.increase (λ n at. (ticks.due n).0 at) (λ n at. (ticks.due n).1 at)
    (λ x at. let w = alike_timer (Waits s.end packets s.conn held clock) s.flights t.timers x old.timers at in w.2.waits) old.alone
  where
    increase : (now : ℕ) (s : Sending) (packets : List Sealed) (held : List Item) (t : Timing) (clock : ℕ) → Mirrors s held packets t clock → IsIncreasingFrom (s.acked + 1) (map (λ (x : Timer). x.seq) t.timers)
    increase now s packets held t clock old =
        seqs_increase s.acked (s.sent - s.acked) t.timers s.flights (alike_seqs (Waits s.end packets s.conn held clock) s.flights t.timers (λ f x w. w.seq) old.timers) old.flights

timers_increase : (s : Sending) (packets : List Sealed) (held : List Item) (t : Timing) (clock : ℕ) → Mirrors s held packets t clock → IsIncreasingFrom (s.acked + 1) (map (λ (x : Timer). x.seq) t.timers)
timers_increase s packets held t clock old = seqs_increase s.acked (s.sent - s.acked) t.timers s.flights (alike_seqs (Waits s.end packets s.conn held clock) s.flights t.timers (λ f x w. w.seq) old.timers) old.flights

flights_increase : (s : Sending) (packets : List Sealed) (held : List Item) (t : Timing) (clock : ℕ) → Mirrors s held packets t clock → IsIncreasingFrom (s.acked + 1) (map (λ (f : Flight). f.seq) s.flights)
flights_increase s packets held t clock old =
    subst (IsIncreasingFrom (s.acked + 1)) (alike_seqs (Waits s.end packets s.conn held clock) s.flights t.timers (λ f x w. w.seq) old.timers) (timers_increase s packets held t clock old)

tried_pairs : (now : ℕ) (s : Sending) (packets : List Sealed) (held left : List Item) (t : Timing) (clock : ℕ) (numbers : List ℕ) → numbers ≡ due_numbers now t.timers → clock ≤ now → now ≤ clock + 1
    → held_of s.conn left ≡ held_of s.conn (waits_longer now s numbers (without (is_over now) held)) → Mirrors s held packets t clock
    → Alike (Waits s.end packets s.conn left now) (map (tried numbers) s.flights) (map (tried_in now t.window) t.timers)
tried_pairs now s packets held left t clock numbers are low high same old =
    let R = Waits s.end packets s.conn held clock in
    alike_map (λ f x. R f x × Contains s.flights f × Contains t.timers x) (Waits s.end packets s.conn left now) (tried numbers) (tried_in now t.window) s.flights t.timers
    (λ f x w.
    let among : is_among numbers f.seq ≡ is_due now x =
    ap (λ l. is_among l f.seq) are ∙ ap (is_among (due_numbers now t.timers)) (sym w.0.seq)
    ∙ passes_among (λ (y : Timer). y.seq) (is_due now) (s.acked + 1) t.timers x (timers_increase s packets held t clock old) w.2 in
    let there : is_due now x ≡ true → Contains numbers f.seq = (λ e.
    subst (λ l. Contains l f.seq) (sym are) (subst (Contains (due_numbers now t.timers)) w.0.seq (Contains-map (λ (y : Timer). y.seq) (filter (is_due now) t.timers) x (filter_has (is_due now) t.timers x w.2 e)))) in
    tried_pair now s packets held left numbers clock t.window f x old.window low high same among there (find_itself (λ (g : Flight). g.seq) (s.acked + 1) s.flights f (flights_increase s packets held t clock old) w.1) w.0)
    (alike_in R s.flights t.timers old.timers)

-- all of them are among the timers
due_among : (now : ℕ) (ts us : List Timer) → ((x : Timer) → Contains us x → Contains ts x) → filter (stands_among ts) (due_numbers now us) ≡ due_numbers now us
due_among now ts [] within = refl
due_among now ts (u ∷ us) within = by (is_due now u) (due_among now ts us (λ x at. within x (Contains-tail u us x at)))
  where
    by : (b : Bool) → filter (stands_among ts) (due_numbers now us) ≡ due_numbers now us
        → filter (stands_among ts) (map (λ (x : Timer). x.seq) (cond b (u ∷ filter (is_due now) us) (filter (is_due now) us))) ≡ map (λ (x : Timer). x.seq) (cond b (u ∷ filter (is_due now) us) (filter (is_due now) us))
    by true rest =
        ap (λ b. cond b (u.seq ∷ filter (stands_among ts) (due_numbers now us)) (filter (stands_among ts) (due_numbers now us))) (timer_among ts u (within u (Contains-head u us)))
        ∙ ap (λ l. u.seq ∷ l) rest
    by false rest = rest

again_soon : (now clock : ℕ) (w : WindowState) (o : Option Asked) → clock ≤ now → ((a : Asked) → o ≡ Some a → IsSoon clock a.due) → (x : Asked) → option_map (asked_again now w) o ≡ Some x → IsSoon now x.due
again_soon now clock w None low old x h = let bad : None ≡ Some x = h in cc
again_soon now clock w (Some a) low old x h = by (nat_le a.due now) refl h
  where
    by : (b : Bool) → nat_le a.due now ≡ b → Some (cond b (record { due = now + wait_in w (a.tries + 1); tries = a.tries + 1 }) a) ≡ Some x → IsSoon now x.due
    by true e h = let same : record { due = now + wait_in w (a.tries + 1); tries = a.tries + 1 } ≡ x = cc in subst (λ (y : Asked). IsSoon now y.due) same (waits_soon w (a.tries + 1) now)
    by false e h =
        let same : a ≡ x = cc in
        let beyond = leb-false a.due now e in
        let near = (old a refl).near in
        subst (λ (y : Asked). IsSoon now y.due) same (record { later = omega (arith, beyond); near = omega (arith, near, low) })

least_where : (numbers : List ℕ) (w : WindowState) → HasLeast w → HasLeast (lost_where numbers w)
least_where [] w h = h
least_where (n ∷ numbers) w h = least_lost w h

less_where : (numbers : List ℕ) (w : WindowState) → HasLeast w → (lost_where numbers w).window ≤ w.window
less_where [] w h = omega arith
less_where (n ∷ numbers) w h = lost_less_one w h

mirrors_ticked : (now : ℕ) (s : Sending) (packets : List Sealed) (held left : List Item) (t : Timing) (clock : ℕ) (numbers : List ℕ) (resent : ℕ) → numbers ≡ due_numbers now t.timers → clock ≤ now → now ≤ clock + 1
    → held_of s.conn left ≡ held_of s.conn (waits_longer now s numbers (without (is_over now) held)) → Mirrors s held packets t clock → Mirrors (ticked_as now numbers s resent) left packets (timing_ticked now t) now
mirrors_ticked now s packets held left t clock numbers resent are low high same old =
    let least = least_where numbers s.window (old.depth, old.least) in
    record {
      sealed = old.sealed;
      small = old.small;
      sizes = old.sizes;
      numbers = old.numbers;
      kept = old.kept;
      up = old.up;
      taken = old.taken;
      flights = map_map (λ (f : Flight). f.seq) (tried numbers) s.flights ∙ map_same (λ f. (tried numbers f).seq) (λ (f : Flight). f.seq) s.flights (λ f at. tried_seq numbers f) ∙ old.flights;
      timers = tried_pairs now s packets held left t clock numbers are low high same old;
      alone = λ y at mine. elim (longer_is now s numbers (without (is_over now) held) y (waits_from now s held left numbers same y mine at)) [
        | inl before ↦
            let w = (rest_holds held (is_over now) y).0 before in
            let x = old.alone y w.0 mine in
            let late : is_due now x.0 ≡ false = ap (λ (z : Item). nat_le z.due now) (sym x.2) ∙ w.1 in
            let stays : tried_in now t.window x.0 ≡ x.0 = ap (λ b. cond b (record x.0 { due = now + wait_in t.window (x.0.tries + 1); tries = x.0.tries + 1; resent = true }) x.0) late in
            (tried_in now t.window x.0, Contains-map (tried_in now t.window) t.timers x.0 x.1, x.2 ∙ ap (item_of s.conn) (sym stays))
        | inr again ↦
            let n = again.0 in
            let w = map-Contains (λ (x : Timer). x.seq) (filter (is_due now) t.timers) n (subst (λ l. Contains l n) are again.1) in
            let x = in_filter (is_due now) t.timers w.0 w.1 in
            let f = alike_timer (Waits s.end packets s.conn held clock) s.flights t.timers w.0 old.timers x.0 in
            let seq : n ≡ f.0.seq = w.2 ∙ f.2.seq in
            let found : flight_at s.flights n ≡ Some f.0 = ap (flight_at s.flights) seq ∙ find_itself (λ (g : Flight). g.seq) (s.acked + 1) s.flights f.0 (flights_increase s packets held t clock old) f.1 in
            let made : tried_in now t.window w.0 ≡ record w.0 { due = now + wait_in t.window (w.0.tries + 1); tries = w.0.tries + 1; resent = true } =
            ap (λ b. cond b (record w.0 { due = now + wait_in t.window (w.0.tries + 1); tries = w.0.tries + 1; resent = true }) w.0) x.1 in (
              tried_in now t.window w.0,
              Contains-map (tried_in now t.window) t.timers w.0 x.0,
              again.2 ∙ ap (λ o. item_for (now + wait_in s.window (tries_of o + 1)) n) found ∙ ap (λ k. item_for (now + wait_in s.window (k + 1)) n) (sym f.2.tries)
                  ∙ ap (λ v. item_for (now + wait_in v (w.0.tries + 1)) n) (sym old.window) ∙ ap (λ k. item_for (now + wait_in t.window (w.0.tries + 1)) k) w.2 ∙ ap (item_of s.conn) (sym made),
            )
      ];
      window = ap (λ l. lost_where l t.window) (sym are) ∙ ap (lost_where numbers) old.window;
      depth = least.0;
      least = least.1;
      asked = ap (λ w. option_map (asked_again now w) t.asked) old.window ∙ ap (option_map (asked_again now s.window)) old.asked;
      asked_soon = again_soon now clock s.window s.asked low old.asked_soon;
    }
  where
    item_for : ℕ → ℕ → Item
    item_for due seq = record { due = due; conn = s.conn; seq = seq }

-- ---- nothing is emitted for the first time

asked_still : (b d : Bool) (later now : ℕ) (v w : WindowState) (o : Option Asked) → cond b None (cond d (standing later v o) o) ≡ o
    → cond b None (cond d (standing later v (option_map (asked_again now w) o)) (option_map (asked_again now w) o)) ≡ option_map (asked_again now w) o
asked_still true d later now v w None h = refl
asked_still true d later now v w (Some a) h = let bad : None ≡ Some a = h in cc
asked_still false true later now v w None h = absurd (cc)
asked_still false true later now v w (Some a) h = refl
asked_still false false later now v w o h = refl

-- the standing query is of this window's waiting time where there is none yet
any_window : (b d : Bool) (later : ℕ) (v w : WindowState) (o : Option Asked) → cond b None (cond d (standing later v o) o) ≡ o → cond b None (cond d (standing later w o) o) ≡ o
any_window true d later v w o h = h
any_window false true later v w None h = absurd (cc)
any_window false true later v w (Some a) h = refl
any_window false false later v w o h = refl

settled_ticked : (now : ℕ) (s : Sending) (numbers : List ℕ) (resent : ℕ) → HasLeast s.window → IsSettled s → IsSettled (ticked_as now numbers s resent)
settled_ticked now s numbers resent least settled =
    let v = lost_where numbers s.window in
    let less = less_where numbers s.window least in
    record {
      none = fewer (s.sealed - s.sent) s.window.window v.window (s.sent - s.acked) (capacity s) less settled.none;
      query = λ later. asked_still (nat_lt 0 (capacity s)) (nat_le s.sent s.acked && nat_lt s.sent s.sealed) later now v s.window s.asked
          (any_window (nat_lt 0 (capacity s)) (nat_le s.sent s.acked && nat_lt s.sent s.sealed) later s.window v s.asked (settled.query later));
    }
  where
    fewer : (unsent a b flying room : ℕ) → b ≤ a → min unsent (room_of a flying room) ≡ 0 → min unsent (room_of b flying room) ≡ 0
    fewer unsent a b flying room le h = omega (arith, le, h)

-- ---- the entry

no_hearing : (c : ConnKey) (ds : List Datagram) → hears c (record { ask = Tick; reply = Ticked (Ok ds) }) ≡ []
no_hearing c ds = refl

clock_next : (h : List Entry) (ds : List Datagram) (now : ℕ) → clock_of (h ++ record { ask = Tick; reply = Ticked (Ok ds) } ∷ []) ≡ now → (clock_of h ≤ now) × (now ≤ clock_of h + 1)
clock_next h ds now is = let push = ticks_of-push h (record { ask = Tick; reply = Ticked (Ok ds) }) in (omega (arith, is, push), omega (arith, is, push))

ready_ticked : (s : Sending) (held left : List Item) (h : List Entry) (ds : List Datagram) (now : ℕ) (numbers : List ℕ) (resent : ℕ) → s.stopped ≡ false → clock_of (h ++ record { ask = Tick; reply = Ticked (Ok ds) } ∷ []) ≡ now
    → numbers ≡ due_numbers now (timing_of s.end.key s.settings h).timers → held_of s.conn left ≡ held_of s.conn (waits_longer now s numbers (without (is_over now) held)) → Reflects s held h
    → Ready (ticked_as now numbers s resent) left h (record { ask = Tick; reply = Ticked (Ok ds) })
ready_ticked s held left h ds now numbers resent running is_now are same old =
    let c = s.end.key in
    let e : Entry = record { ask = Tick; reply = Ticked (Ok ds) } in
    let runs = old.runs running in
    let packets : sealed_of c s.settings (h ++ e ∷ []) ≡ sealed_of c s.settings h = sealed_stays c s.settings h e refl refl in
    let t = timing_of c s.settings h in
    let range = clock_next h ds now is_now in
    let m = ticked_as now numbers s resent in
    record {
      names = old.names;
      checked = old.checked;
      running = running;
      runs = stopped_stays c h e refl ∙ old.stopped ∙ running;
      reads = record {
        finished = finished_stays c h e refl ∙ runs.reads.finished;
        opened = λ on. ap (λ l. together (filling s.settings.packet l).opened) (chunks_stay c h e refl) ∙ runs.reads.opened on;
        least = runs.reads.least;
        most = runs.reads.most;
        run = run_stays c h e refl ∙ runs.reads.run;
        consumed = consumed_stays c h e refl ∙ runs.reads.consumed;
      };
      mirrors = subst (λ l. Mirrors m left l (timing_ticked (clock_of (h ++ e ∷ [])) t) (clock_of (h ++ e ∷ []))) (sym packets)
          (subst (λ n. Mirrors m left (sealed_of c s.settings h) (timing_ticked n t) n) (sym is_now)
          (mirrors_ticked now s (sealed_of c s.settings h) held left t (clock_of h) numbers resent are range.0 range.1 same runs.mirrors));
      sent = subst (λ l. SentUpto l (rows_emitted_of c h) s.sent) (sym packets) old.sent;
      made = old.made;
    }

-- what is due lies among what was emitted
due_sent : (s : Sending) (packets : List Sealed) (held : List Item) (t : Timing) (clock now : ℕ) → Mirrors s held packets t clock → (n : ℕ) → Contains (due_numbers now t.timers) n → (1 ≤ n) × (n ≤ s.sent)
due_sent s packets held t clock now old n at =
    let w = map-Contains (λ (x : Timer). x.seq) (filter (is_due now) t.timers) n at in
    let x = in_filter (is_due now) t.timers w.0 w.1 in
    let f = alike_timer (Waits s.end packets s.conn held clock) s.flights t.timers w.0 old.timers x.0 in
    let range = in_behind s.acked (s.sent - s.acked) f.0.seq (subst (λ l. Contains l f.0.seq) old.flights (Contains-map (λ (g : Flight). g.seq) s.flights f.0 f.1)) in
    let seq : n ≡ f.0.seq = w.2 ∙ f.2.seq in
    (omega (arith, seq, range.0), omega (arith, seq, range.1, old.up))

none_passes : {A : Type 0} (p : A → Bool) (xs : List A) → ((x : A) → Contains xs x → p x ≡ false) → filter p xs ≡ []
none_passes p [] h = refl
none_passes p (x ∷ xs) h = ap (λ b. cond b (x ∷ filter p xs) (filter p xs)) (h x (Contains-head x xs)) ∙ none_passes p xs (λ y at. h y (Contains-tail x xs y at))

pub none_found : (p : ℕ → Bool) (ns : List ℕ) (n : ℕ) → find p ns ≡ None → Contains ns n → p n ≡ false
none_found p [] n h at = absurd (Contains-none n at)
none_found p (m ∷ ns) n h at = by (p m) refl h (none_found p ns n)
  where
    by : (b : Bool) → p m ≡ b → cond b (Some m) (find p ns) ≡ None → (find p ns ≡ None → Contains ns n → p n ≡ false) → p n ≡ false
    by true e h rest = absurd (let bad : Some m ≡ None = h in cc)
    by false e h rest = elim (head_or_tail m ns n at) [ inl same ↦ ap p (sym same) ∙ e | inr later ↦ rest h later ]

pub not_any : {A : Type 0} (p : A → Bool) (xs : List A) (x : A) → list_any p xs ≡ false → Contains xs x → p x ≡ false
not_any p [] x none at = absurd (Contains-none x at)
not_any p (y ∷ xs) x none at = elim (cases_Bool (p x)) [
  | inl pass ↦ absurd (let bad : false ≡ true = sym none ∙ list_any-has p (y ∷ xs) x at pass in cc)
  | inr fails ↦ fails
]

-- nothing was given up
none_spent : (s : Sending) (held : List Item) (h : List Entry) (now : ℕ) (numbers : List ℕ) → min last_tick (ticks_of h + 1) ≡ now → numbers ≡ due_numbers now (timing_of s.end.key s.settings h).timers
    → spent_of s numbers ≡ None → is_unanswered s.settings.retries now s.asked ≡ false → Runs s held h → NoneSpent s.settings s.end.key h
none_spent s held h now numbers is_now are unspent answered runs = record {
  packets = ap (λ n. spent_timers s.settings n t) is_now ∙ none_passes (has_no_try s.settings now) t.timers (λ x at. one x at);
  query = ap (λ n. spent_query s.settings n t.asked) is_now ∙ ap (spent_query s.settings now) runs.mirrors.asked ∙ query s.asked ∙ answered;
}
  where
    t : Timing
    t = timing_of s.end.key s.settings h

    query : (o : Option Asked) → spent_query s.settings now o ≡ is_unanswered s.settings.retries now o
    query None = refl
    query (Some a) = refl

    one : (x : Timer) → Contains (timing_of s.end.key s.settings h).timers x → has_no_try s.settings now x ≡ false
    one x at = by (is_due now x) refl
      where
        by : (b : Bool) → is_due now x ≡ b → (b && (x.tries == s.settings.retries)) ≡ false
        by false e = refl
        by true e =
            let m = runs.mirrors in
            let u = timing_of s.end.key s.settings h in
            let packets = sealed_of s.end.key s.settings h in
            let f = alike_timer (Waits s.end packets s.conn held (clock_of h)) s.flights u.timers x m.timers at in
            let there : Contains numbers x.seq = subst (λ l. Contains l x.seq) (sym are) (Contains-map (λ (y : Timer). y.seq) (filter (is_due now) u.timers) x (filter_has (is_due now) u.timers x at e)) in
            let test : Flight → Bool = (λ (g : Flight). (g.seq == x.seq) && (g.tries == s.settings.retries)) in
            let none : list_any test s.flights ≡ false = none_found (is_spent_here s) numbers x.seq unspent there in
            ap (λ k. k == s.settings.retries) f.2.tries ∙ sym (ap (λ b. b && (f.0.tries == s.settings.retries)) (ap (λ n. n == x.seq) (sym f.2.seq) ∙ same_number x.seq)) ∙ not_any test s.flights f.0 none f.1

-- ---- what goes out at a tick

query_rows : (s : Sending) (b : Bool) → IsNamed s.end → s.sent < 2 ^ 32 → flat_map (rows_in s.end.key) (queries_when s b) ≡ []
query_rows s true names small = ap (λ l. l ++ []) (query_has_no_rows s.end s.sent names small)
query_rows s false names small = refl

query_asks : (s : Sending) (b : Bool) → IsNamed s.end → s.sent < 2 ^ 32 → flat_map (queries_in s.end.key) (queries_when s b) ≡ cond b (s.sent ∷ []) []
query_asks s true names small = ap (λ l. l ++ []) (query_again s.end s.sent names small)
query_asks s false names small = refl

-- which of these datagrams is a packet of rows, and which the query
query_is : (s : Sending) (b : Bool) (d : Datagram) → Contains (queries_when s b) d → d ≡ query_datagram s.end s.sent
query_is s true d at = Contains-one (query_datagram s.end s.sent) d at
query_is s false d at = absurd (Contains-none d at)

-- each of them that is one of c is one of these
made_rows : (s : Sending) (mine ds : List Datagram) (rows : List RowPacket) (b : Bool) → AreAmong s.end.key mine ds → IsNamed s.end → AllTravel rows → s.sent < 2 ^ 32 → mine ≡ map (row_datagram s.end) rows ++ queries_when s b
    → (d : Datagram) (p : RowPacket) → Contains ds d → rows_in s.end.key d ≡ p ∷ [] → d ≡ row_datagram s.end p
made_rows s mine ds rows b among names travel small all d p at reads =
    elim (among.each d at) [
      | inl here ↦ elim (Contains-append_cases (map (row_datagram s.end) rows) (queries_when s b) d (subst (λ l. Contains l d) all here)) [
        | inl row ↦
            let w = rows_made s.end rows d names travel row in
            let both : w.0 ∷ [] ≡ p ∷ [] = sym w.1 ∙ reads in
            let same : w.0 ≡ p = cc in
            w.3 ∙ ap (row_datagram s.end) same
        | inr query ↦
            let none : rows_in s.end.key d ≡ [] = ap (rows_in s.end.key) (query_is s b d query) ∙ query_has_no_rows s.end s.sent names small in
            absurd (let bad : [] ≡ p ∷ [] = sym none ∙ reads in cc)
      ]
      | inr other ↦ absurd (let bad : [] ≡ p ∷ [] = sym other.0 ∙ reads in cc)
    ]

made_queries : (s : Sending) (mine ds : List Datagram) (rows : List RowPacket) (b : Bool) → AreAmong s.end.key mine ds → IsNamed s.end → AllTravel rows → s.sent < 2 ^ 32 → mine ≡ map (row_datagram s.end) rows ++ queries_when s b
    → (d : Datagram) (n : ℕ) → Contains ds d → queries_in s.end.key d ≡ n ∷ [] → d ≡ query_datagram s.end n
made_queries s mine ds rows b among names travel small all d n at reads =
    elim (among.each d at) [
      | inl here ↦ elim (Contains-append_cases (map (row_datagram s.end) rows) (queries_when s b) d (subst (λ l. Contains l d) all here)) [
        | inl row ↦ absurd (let w = rows_made s.end rows d names travel row in let bad : [] ≡ n ∷ [] = sym w.2 ∙ reads in cc)
        | inr query ↦
            let is = query_is s b d query in
            let both : s.sent ∷ [] ≡ n ∷ [] = sym (ap (queries_in s.end.key) is ∙ query_again s.end s.sent names small) ∙ reads in
            let same : s.sent ≡ n = cc in
            is ∙ ap (query_datagram s.end) same
      ]
      | inr other ↦ absurd (let bad : [] ≡ n ∷ [] = sym other.1 ∙ reads in cc)
    ]

pub ticks_stand : (s : Sending) (held : List Item) (now : ℕ) (mine : List Datagram) (new : Sending) (left : List Item) (h : List Entry) (e : Entry) → Ticks now s held mine new left → clock_of (h ++ e ∷ []) ≡ now → IsTicking s.end.key mine e → Stands s held h
    → Stands new left (h ++ e ∷ [])
ticks_stand s held now mine new left h e ticks is_now is old =
    let shown : e ≡ record { ask = Tick; reply = Ticked (Ok is.ds) } = entry_is e Tick (Ticked (Ok is.ds)) is.ask is.reply in
    subst (λ (x : Entry). Stands new left (h ++ x ∷ [])) (sym shown) (by s.stopped refl (ap (λ (x : Entry). clock_of (h ++ x ∷ [])) (sym shown) ∙ is_now))
  where
    refuses : Refuses s.settings s.end h (record { ask = Tick; reply = Ticked (Ok is.ds) })
    refuses = record {
      put = λ chunk ask kept. absurd (let bad : Tick ≡ Put s.end.key chunk = ask in cc);
      finish = λ ask kept. absurd (let bad : Tick ≡ Finish s.end.key = ask in cc);
      heard = λ d p ask directed reads key kept. absurd (let bad : Tick ≡ Arrive d = ask in cc);
    }

    running : s.stopped ≡ false → clock_of (h ++ record { ask = Tick; reply = Ticked (Ok is.ds) } ∷ []) ≡ now → Stands new left (h ++ record { ask = Tick; reply = Ticked (Ok is.ds) } ∷ [])
    running on clock =
        let c = s.end.key in
        let x : Entry = record { ask = Tick; reply = Ticked (Ok is.ds) } in
        let nowh = h ++ x ∷ [] in
        let runs = old.reflects.runs on in
        let m0 = runs.mirrors in
        let t = timing_of c s.settings h in
        let packets = sealed_of c s.settings h in
        let numbers = ticks.numbers in
        let are : numbers ≡ due_numbers now t.timers = due_are now s packets held t (clock_of h) mine new left ticks m0 in
        let form = ticks_as now numbers s in
        let m = ticked_as now numbers s form.0 in
        let ready = ready_ticked s held left h is.ds now numbers form.0 on clock are ticks.waits old.reflects in
        let settled = settled_ticked now s numbers form.0 (m0.depth, m0.least) runs.settled in
        let stay : sealed_of c s.settings nowh ≡ packets = sealed_stays c s.settings h x refl refl in
        let within : (n : ℕ) → Contains numbers n → (1 ≤ n) × (n ≤ s.sent) = (λ n at. due_sent s packets held t (clock_of h) now m0 n (subst (λ l. Contains l n) are at)) in
        let rows = rows_at packets numbers in
        let travel : AllTravel rows = rows_travel s held packets t (clock_of h) numbers old.reflects.checked m0 (λ n at. let w = within n at in (w.0, omega (arith, w.1, old.reflects.sent.within))) in
        let small : s.sent < 2 ^ 32 = omega (arith, old.reflects.sent.within, m0.sealed, m0.small) in
        let names = old.reflects.names in
        let due = query_due now s.asked in
        let again : copies s.flights numbers ≡ map (row_datagram s.end) rows =
        copies_are s.end packets s.conn held (clock_of h) s.flights t.timers numbers m0.timers
        ∙ ap (λ l. map (row_datagram s.end) (rows_at packets l)) (ap (filter (stands_among t.timers)) are ∙ due_among now t.timers t.timers (λ y at. at) ∙ sym are) in
        let all : mine ≡ map (row_datagram s.end) rows ++ queries_when s due = ticks.datagrams ∙ ap (λ l. l ++ queries_next now s) again in
        let mine_rows : flat_map (rows_in c) mine ≡ rows =
        ap (flat_map (rows_in c)) all ∙ flat_map-append (rows_in c) (map (row_datagram s.end) rows) (queries_when s due)
        ∙ ap (λ l. l ++ flat_map (rows_in c) (queries_when s due)) (rows_again s.end rows names travel) ∙ ap (λ l. rows ++ l) (query_rows s due names small) ∙ append-nil rows in
        let mine_queries : flat_map (queries_in c) mine ≡ cond due (s.sent ∷ []) [] =
        ap (flat_map (queries_in c)) all ∙ flat_map-append (queries_in c) (map (row_datagram s.end) rows) (queries_when s due)
        ∙ ap (λ l. l ++ flat_map (queries_in c) (queries_when s due)) (rows_ask_nothing s.end rows names travel) ∙ query_asks s due names small in
        let none : rows_next m ≡ [] = settled_rows m settled in
        let rows_out : flat_map (rows_in c) is.ds ≡ rows_at (sealed_of c s.settings nowh) numbers ++ rows_next m =
        is.among.rows ∙ mine_rows ∙ ap (λ l. rows_at l numbers) (sym stay) ∙ sym (append-nil (rows_at (sealed_of c s.settings nowh) numbers)) ∙ ap (λ l. rows_at (sealed_of c s.settings nowh) numbers ++ l) (sym none) in
        let made : (d : Datagram) (p : RowPacket) → Contains is.ds d → rows_in c d ≡ p ∷ [] → d ≡ row_datagram s.end p = (λ d p at reads. made_rows s mine is.ds rows due is.among names travel small all d p at reads) in
        let made_query : (d : Datagram) (n : ℕ) → Contains is.ds d → queries_in c d ≡ n ∷ [] → d ≡ query_datagram s.end n = (λ d n at reads. made_queries s mine is.ds rows due is.among names travel small all d n at reads) in
        let law_again : numbers ≡ again_numbers c h x t = are ∙ ap (λ n. due_numbers n t.timers) (sym clock) in
        let reflects = emits_on m left h x numbers ready within rows_out made in
        let queries : flat_map (queries_in c) is.ds ≡ queries_then c s.settings h x =
        is.among.queries ∙ mine_queries ∙ ap (λ n. cond due (n ∷ []) []) (sym (greatest_sent packets (rows_emitted_of c h) s.sent old.reflects.sent))
        ∙ ap (λ o. cond (query_due now o) (sent_upto c h ∷ []) []) (sym m0.asked) ∙ ap (λ n. cond (query_due n t.asked) (sent_upto c h ∷ []) []) (sym clock) in
        let emission : EmitsDue s.settings s.end h x = record {
          rows = rows_out ∙ rows_are m left h x numbers ready law_again;
          row_datagrams = made;
          queries = queries;
          query_datagrams = made_query;
          unspent = λ one. none_spent s held h now numbers (ap (λ n. min last_tick n) (sym (ticks_of-push h x)) ∙ clock) are ticks.unspent ticks.answered runs;
        } in
        let same_state : emitting (clock_of nowh) m ≡ new = settled_stays m (clock_of nowh) settled ∙ sym form.1 ∙ sym ticks.state in
        let same_left : waits_next (clock_of nowh) m left ≡ left = settled_waits m (clock_of nowh) left settled in
        let stands : Stands (emitting (clock_of nowh) m) (waits_next (clock_of nowh) m left) nowh =
        keeps_law (emitting (clock_of nowh) m) (waits_next (clock_of nowh) m left) h x old.law reflects (λ here. refuses) emission in
        subst (λ (y : Sending). Stands y left nowh) same_state (subst (λ l. Stands (emitting (clock_of nowh) m) l nowh) same_left stands)

    stopped : s.stopped ≡ true → clock_of (h ++ record { ask = Tick; reply = Ticked (Ok is.ds) } ∷ []) ≡ now → Stands new left (h ++ record { ask = Tick; reply = Ticked (Ok is.ds) } ∷ [])
    stopped off clock =
        let c = s.end.key in
        let x : Entry = record { ask = Tick; reply = Ticked (Ok is.ds) } in
        let still = old.reflects.still off in
        let form = ticks_as now ticks.numbers s in
        let is_new : new ≡ ticked_as now ticks.numbers s form.0 = ticks.state ∙ form.1 in
        let quiet : mine ≡ [] = ticks.datagrams ∙ ap (λ l. copies l ticks.numbers ++ queries_next now s) still.flights ∙ ap (λ l. l ++ queries_next now s) (no_copies ticks.numbers)
        ∙ ap (λ o. queries_when s (query_due now o)) still.query in
        let passes : PassesStopped s h x = record {
          puts_none = refl;
          finishes_none = refl;
          rows = is.among.rows ∙ ap (flat_map (rows_in c)) quiet;
          queries = is.among.queries ∙ ap (flat_map (queries_in c)) quiet;
        } in
        let now_off : stopped_of c (h ++ x ∷ []) ≡ true = stopped_of-push c h x ∙ ap (λ b. b || false) (old.reflects.stopped ∙ off) in
        let reflects : Reflects new left (h ++ x ∷ []) =
        reflects_stopped s new held left h x (ap (λ (y : Sending). y.end) is_new) (ap (λ (y : Sending). y.settings) is_new) (ap (λ (y : Sending). y.sent) is_new) (ap (λ (y : Sending). y.stopped) is_new ∙ off)
        (ap (λ (y : Sending). y.flights) is_new ∙ ap (map (tried ticks.numbers)) still.flights) (ap (λ (y : Sending). y.asked) is_new ∙ ap (option_map (asked_again now s.window)) still.query) now_off passes old.reflects in
        let law : Every (KeepsSending new.settings new.end) h =
        subst (λ y. Every (KeepsSending y new.end) h) (sym (ap (λ (y : Sending). y.settings) is_new)) (subst (λ (y : ConnEnd). Every (KeepsSending s.settings y) h) (sym (ap (λ (y : Sending). y.end) is_new)) old.law) in
        let refuse : Refuses new.settings new.end h x =
        subst (λ y. Refuses y new.end h x) (sym (ap (λ (y : Sending). y.settings) is_new)) (subst (λ (y : ConnEnd). Refuses s.settings y h x) (sym (ap (λ (y : Sending). y.end) is_new)) refuses) in
        let due : EmitsDue new.settings new.end h x =
        subst (λ y. EmitsDue y new.end h x) (sym (ap (λ (y : Sending). y.settings) is_new)) (subst (λ (y : ConnEnd). EmitsDue s.settings y h x) (sym (ap (λ (y : Sending). y.end) is_new)) (stopped_due s h x now_off (inr still) passes)) in
        keeps_law new left h x law reflects (λ here. refuse) due

    by : (b : Bool) → s.stopped ≡ b → clock_of (h ++ record { ask = Tick; reply = Ticked (Ok is.ds) } ∷ []) ≡ now → Stands new left (h ++ record { ask = Tick; reply = Ticked (Ok is.ds) } ∷ [])
    by false on clock = running on clock
    by true off clock = stopped off clock
