-- After each entry, a sending end that is here has nothing left that may be emitted; an end that never was here has
-- nothing at all.
use Rattle.std.proofs.Common.{◌≡◌, ℕ, zero, suc, ◌+◌, ◌-◌, ◌/◌, ◌<◌, ◌≤◌, min, max, List, [], ◌∷◌, ◌++◌, length, map, Bool, true, false, cond, ◌||◌, Some, Err}
use Rattle.std.proofs.Common.{refl, ap, sym, ◌∙◌, subst, inl, inr, ◌⊎◌, arith, slice_get}
use Rattle.std.specs.List.{Contains, flat_map, list_any}
use Rattle.std.proofs.lemmas.List.Elements.{Contains-append_left, Contains-append_right}
use Rattle.ic_base.specs.declared.keys.ConnKey.{ConnKey}
use Rattle.ic_base.specs.declared.keys.ConnEnd.{ConnEnd}
use Rattle.ic_base.specs.declared.settings.Settings.{Settings}
use Rattle.ic_window.specs.Window.{room_of}
use Rattle.ic_law.specs.declared.history.HubAsk.TheVariants.{Begin}
use Rattle.ic_law.specs.declared.history.HubReply.TheVariants.{Begun, Memory}
use Rattle.ic_base.specs.declared.keys.BeginNo.TheVariants.{Old, Twice}
use Rattle.ic_law.specs.declared.history.Entry.{Entry}
use Rattle.ic_law.specs.History.{emits, rows_in, rows_emitted_of, number_of, greatest, sent_upto}
use Rattle.ic_law.specs.Putting.{puts, chunks_put_of, finishes, finished_of, chunk_put, is_finish}
use Rattle.ic_law.specs.Hearing.{hears, heard_of, is_stop, stopped_of, run_told, run_heard, consumed_told, consumed_heard, heard_by}
use Rattle.ic_law.specs.Queries.{was_begun, leaves, left_of}
use Rattle.ic_law.specs.Filling.{Sealed, filling, sealed, sealed_of}
use Rattle.ic_law.specs.Points.{Place, IsLive, IsHere}
use Rattle.ic_law.specs.Arriving.{IsLiveQuery, IsOld, IsUnknownKey, AnswersBegin, IsOldOne, IsTwice, IsNew}
use Rattle.ic_law.specs.Timers.{Timing}
use Rattle.ic_law.specs.Timing.{timing_of, moved, cleared, settled, fresh_count, row_at, rows_at, numbers_behind}
use Rattle.ic_law.specs.Emitting.{again_numbers, emitted_numbers}
use Rattle.ic_law.specs.Emission.{EmitsDue, EmissionLaw}
use Rattle.ic_law.specs.Hub.{HubPoint, HubLaw}
use Rattle.ic_law.proofs.Lists.{flat_map-append, map-append}
use Rattle.ic_law.proofs.Readings.{fold_every, rows_emitted_of-push, chunks_put_of-push, finished_of-push, heard_of-push, stopped_of-push, run_heard-push}
use Rattle.ic_law.proofs.Readings.{consumed_heard-push, left_of-push, greatest-append}
use Rattle.ic_law.proofs.Timings.{timing_of-push}
use Rattle.ic_law.proofs.Lives.{Starts, every_front, live_push, live_pull}
use Rattle.ic_law.proofs.Deciding.{told_among}
use Rattle.ic_law.proofs.Hearing.{AddsNone, adds_none, Hears, HearsNone, HearsOne, hears_upto}

-- ---- numbers that are emitted first

at_place : (packets : List Sealed) (n : ℕ) → n < length packets → (s : Sealed) × (slice_get packets n ≡ Some s)
at_place [] n lt = absurd (omega (arith, lt))
at_place (p ∷ packets) zero lt = (p, refl)
at_place (p ∷ packets) (suc n) lt = at_place packets n (omega (arith, lt))

one_row : (packets : List Sealed) (n : ℕ) → n < length packets → greatest (map number_of (row_at (slice_get packets (n + 1 - 1)) (n + 1))) ≡ n + 1
one_row packets n lt =
    let w = at_place packets n lt in
    let place : n + 1 - 1 ≡ n = omega arith in
    ap (λ o. greatest (map number_of (row_at o (n + 1)))) (ap (slice_get packets) place ∙ w.1) ∙ omega arith

fresh_top : (packets : List Sealed) (n k : ℕ) → n + suc k ≤ length packets → n + suc k ≤ greatest (map number_of (rows_at packets (numbers_behind n (suc k))))
fresh_top packets n zero fits =
    let first = row_at (slice_get packets (n + 1 - 1)) (n + 1) in
    let rest = rows_at packets (numbers_behind (n + 1) zero) in
    let both : greatest (map number_of (first ++ rest)) ≡ max (greatest (map number_of first)) (greatest (map number_of rest)) = ap greatest (map-append number_of first rest) ∙ greatest-append (map number_of first) (map number_of rest) in
    let here = one_row packets n (omega (arith, fits)) in
    omega (arith, both, here)
fresh_top packets n (suc k) fits =
    let first = row_at (slice_get packets (n + 1 - 1)) (n + 1) in
    let rest = rows_at packets (numbers_behind (n + 1) (suc k)) in
    let both : greatest (map number_of (first ++ rest)) ≡ max (greatest (map number_of first)) (greatest (map number_of rest)) = ap greatest (map-append number_of first rest) ∙ greatest-append (map number_of first) (map number_of rest) in
    let more = fresh_top packets (n + 1) k (omega (arith, fits)) in
    omega (arith, both, more)

-- what an entry emits reaches the last of the packets that go out for the first time
rows_top : (packets : List Sealed) (again : List ℕ) (n k : ℕ) → (1 ≤ k → n + k ≤ length packets) → 1 ≤ k → n + k ≤ greatest (map number_of (rows_at packets (again ++ numbers_behind n k)))
rows_top packets again n zero fits some_ = absurd (omega (arith, some_))
rows_top packets again n (suc k) fits some_ =
    let all : rows_at packets (again ++ numbers_behind n (suc k)) ≡ rows_at packets again ++ rows_at packets (numbers_behind n (suc k)) = flat_map-append (λ seq. row_at (slice_get packets (seq - 1)) seq) again (numbers_behind n (suc k)) in
    let both = ap (λ l. greatest (map number_of l)) all ∙ ap greatest (map-append number_of (rows_at packets again) (rows_at packets (numbers_behind n (suc k)))) ∙ greatest-append (map number_of (rows_at packets again)) (map number_of (rows_at packets (numbers_behind n (suc k)))) in
    let low = fresh_top packets n k (fits some_) in
    omega (arith, both, low)

-- after this many more are emitted, nothing more may be emitted
still_none : (l s t r c d w : ℕ) → r ≤ s → c ≤ s → s + min (l - s) (min (d - (s - c)) (w - (s - r))) ≤ t → min (l - t) (min (d - (t - c)) (w - (t - r))) ≡ 0
still_none l s t r c d w run consumed more = omega (arith, run, consumed, more)

-- ---- an end that is here

-- no more was heard than was emitted, and nothing more may be emitted
pub record IsDrained (settings : Settings) (c : ConnKey) (h : List Entry) : Type 0 where
  pub run : run_heard c h ≤ sent_upto c h
  pub consumed : consumed_heard c h ≤ sent_upto c h
  pub none_left : fresh_count c settings h h (timing_of c settings h).window ≡ 0

or_parts : (a b : Bool) → (a || b) ≡ false → a ≡ false
or_parts true b h = h
or_parts false b h = refl

-- a connection that isn't stopped wasn't stopped before
pub stopped_before : (c : ConnKey) (h : List Entry) (e : Entry) → stopped_of c (h ++ e ∷ []) ≡ false → stopped_of c h ≡ false
stopped_before c h e going = or_parts (stopped_of c h) (list_any is_stop (hears c e)) (sym (stopped_of-push c h e) ∙ going)

record Bounds (c : ConnKey) (h : List Entry) (e : Entry) : Type 0 where
  pub run : run_heard c (h ++ e ∷ []) ≤ sent_upto c h
  pub consumed : consumed_heard c (h ++ e ∷ []) ≤ sent_upto c h

bounds : (c : ConnKey) (h : List Entry) (e : Entry) → run_heard c h ≤ sent_upto c h → consumed_heard c h ≤ sent_upto c h → Hears (sent_upto c h) (hears c e) → Bounds c h e
bounds c h e run consumed (HearsNone none) =
    let a = run_heard-push c h e ∙ ap (λ l. max (run_heard c h) (greatest (map run_told l))) none in
    let b = consumed_heard-push c h e ∙ ap (λ l. max (consumed_heard c h) (greatest (map consumed_told l))) none in
    record { run = omega (arith, a, run); consumed = omega (arith, b, consumed) }
bounds c h e run consumed (HearsOne p one upto) =
    let a = run_heard-push c h e ∙ ap (λ l. max (run_heard c h) (greatest (map run_told l))) one in
    let b = consumed_heard-push c h e ∙ ap (λ l. max (consumed_heard c h) (greatest (map consumed_told l))) one in
    record { run = omega (arith, a, run, upto.run); consumed = omega (arith, b, consumed, upto.consumed) }

-- the window stays as it is when the packets go out
window_after : (c : ConnKey) (settings : Settings) (h : List Entry) (e : Entry) → stopped_of c (h ++ e ∷ []) ≡ false → (timing_of c settings (h ++ e ∷ [])).window ≡ (moved c h e (timing_of c settings h)).window
window_after c settings h e going =
    ap (λ (t : Timing). t.window) (timing_of-push c settings h e)
    ∙ ap (λ b. (cond b (cleared (timing_of c settings h)) (settled c settings h (h ++ e ∷ []) (moved c h e (timing_of c settings h)))).window) going

drained_then : (place : Place) (h : List Entry) (e : Entry) (end : ConnEnd) → HubPoint place h e → end.sending ≡ true → IsHere end h → EmitsDue place.settings end h e
    → (stopped_of end.key h ≡ false → IsDrained place.settings end.key h) → stopped_of end.key (h ++ e ∷ []) ≡ false → IsDrained place.settings end.key (h ++ e ∷ [])
drained_then place h e end point sends here due old going =
    let c = end.key in
    let settings = place.settings in
    let now = h ++ e ∷ [] in
    let before = old (stopped_before c h e going) in
    let b = bounds c h e before.run before.consumed (hears_upto place h e end point sends here (stopped_before c h e going)) in
    let w = (moved c h e (timing_of c settings h)).window in
    let count = fresh_count c settings h now w in
    let rows : flat_map (rows_in c) (emits e) ≡ rows_at (sealed_of c settings now) (again_numbers c h e (timing_of c settings h) ++ numbers_behind (sent_upto c h) count) =
    due.rows ∙ ap (λ s. cond s [] (rows_at (sealed_of c settings now) (emitted_numbers c settings h e (timing_of c settings h)))) going in
    let upto : sent_upto c now ≡ max (sent_upto c h) (greatest (map number_of (flat_map (rows_in c) (emits e)))) =
    ap (λ l. greatest (map number_of l)) (rows_emitted_of-push c h e) ∙ ap greatest (map-append number_of (rows_emitted_of c h) (flat_map (rows_in c) (emits e)))
    ∙ greatest-append (map number_of (rows_emitted_of c h)) (map number_of (flat_map (rows_in c) (emits e))) in
    let top = ap (λ l. greatest (map number_of l)) rows in
    let fits : 1 ≤ count → sent_upto c h + count ≤ length (sealed_of c settings now) =
    (λ some_. fit (length (sealed_of c settings now)) (sent_upto c h) (room_of w.window (sent_upto c h - run_heard c now) (settings.receive_depth - (sent_upto c h - consumed_heard c now))) some_) in
    let reach : sent_upto c h + count ≤ sent_upto c now = reached (sent_upto c h) count (sent_upto c now) _ _ upto top (rows_top (sealed_of c settings now) (again_numbers c h e (timing_of c settings h)) (sent_upto c h) count fits) in
    record {
      run = omega (arith, b.run, reach);
      consumed = omega (arith, b.consumed, reach);
      none_left = ap (λ x. fresh_count c settings now now x) (window_after c settings h e going)
          ∙ still_none (length (sealed_of c settings now)) (sent_upto c h) (sent_upto c now) (run_heard c now) (consumed_heard c now) settings.receive_depth (w.window / 256) b.run b.consumed reach;
    }
  where
    fit : (l s room : ℕ) → 1 ≤ min (l - s) room → s + min (l - s) room ≤ l
    fit l s room some_ = omega (arith, some_)

    reached : (s count t top rows : ℕ) → t ≡ max s top → top ≡ rows → (1 ≤ count → s + count ≤ rows) → s + count ≤ t
    reached s zero t top rows is same low = omega (arith, is)
    reached s (suc n) t top rows is same low = let more = low (omega arith) in omega (arith, is, same, more)

-- ---- an end that never was here

pub record IsNothing (c : ConnKey) (h : List Entry) : Type 0 where
  pub chunks : chunks_put_of c h ≡ []
  pub unfinished : finished_of c h ≡ false
  pub heard : heard_of c h ≡ []

or_none : (a b : Bool) → a ≡ false → b ≡ false → (a || b) ≡ false
or_none true b h k = h
or_none false b h k = k

nothing_then : (c : ConnKey) (h : List Entry) (e : Entry) → AddsNone c e → IsNothing c h → IsNothing c (h ++ e ∷ [])
nothing_then c h e adds old = record {
  chunks = chunks_put_of-push c h e ∙ ap (λ l. l ++ puts c e) old.chunks ∙ adds.puts_none;
  unfinished = finished_of-push c h e ∙ or_none (finished_of c h) (finishes c e) old.unfinished adds.finishes_none;
  heard = heard_of-push c h e ∙ ap (λ l. l ++ hears c e) old.heard ∙ adds.hears_none;
}

-- so it is drained
nothing_drained : (settings : Settings) (c : ConnKey) (h : List Entry) → IsNothing c h → IsDrained settings c h
nothing_drained settings c h none =
    let packets : sealed_of c settings h ≡ [] = ap (λ l. sealed (filling settings.packet l) (finished_of c h)) none.chunks ∙ ap (sealed (filling settings.packet [])) none.unfinished in
    let run : run_heard c h ≡ 0 = ap (λ l. greatest (map run_told l)) none.heard in
    let consumed : consumed_heard c h ≡ 0 = ap (λ l. greatest (map consumed_told l)) none.heard in
    record {
      run = omega (arith, run);
      consumed = omega (arith, consumed);
      none_left = ap (λ (l : List Sealed). min (length l - sent_upto c h) (room_of (timing_of c settings h).window.window (sent_upto c h - run_heard c h) (settings.receive_depth - (sent_upto c h - consumed_heard c h)))) packets
          ∙ least (sent_upto c h) (room_of (timing_of c settings h).window.window (sent_upto c h - run_heard c h) (settings.receive_depth - (sent_upto c h - consumed_heard c h)));
    }
  where
    least : (s r : ℕ) → min (0 - s) r ≡ 0
    least s r = omega arith

-- ---- all of a history

pub record IsAtRest (place : Place) (h : List Entry) : Type 0 where
  pub drained : (end : ConnEnd) → end.sending ≡ true → IsHere end h → stopped_of end.key h ≡ false → IsDrained place.settings end.key h
  pub nothing : (c : ConnKey) → IsUnknownKey true c h → (IsOld c.query h → ⊥) → IsNothing c h

-- an end that is here after an entry was so before, or its query begins with the entry
here_pull : (end : ConnEnd) (h : List Entry) (e : Entry) → IsHere end (h ++ e ∷ []) → ((ends : List ConnEnd) × Starts end.key.query ends e) ⊎ IsHere end h
here_pull end h e here = elim (live_pull end.key.query here.ends h e here.live) [
  | inl s ↦ inl (here.ends, s)
  | inr l ↦ inr (record { ends = here.ends; live = l.0; stands = here.stands })
]

old_push : (q : ℕ) (h : List Entry) (e : Entry) → IsOld q h → IsOld q (h ++ e ∷ [])
old_push q h e old = (old.0, subst (λ l. Contains l old.0) (sym (left_of-push h e)) (Contains-append_left (left_of h) (leaves e) old.0 old.1), old.2)

old_now : (q : ℕ) (h : List Entry) (e : Entry) → Contains (leaves e) q → IsOld q (h ++ e ∷ [])
old_now q h e at = (q, subst (λ l. Contains l q) (sym (left_of-push h e)) (right (left_of h) (leaves e) q at), omega arith)
  where
    right : (xs ys : List ℕ) (x : ℕ) → Contains ys x → Contains (xs ++ ys) x
    right xs ys x at = Contains-append_right xs ys x at

-- a query that begins wasn't live, and isn't old
not_before : (place : Place) (q : ℕ) (h : List Entry) (e : Entry) (ends : List ConnEnd) → HubPoint place h e → Starts q ends e → (IsLiveQuery q h → ⊥) × (IsOld q h → ⊥)
not_before place q h e ends point starts =
    by (point.begin q ends starts.ask (λ memory. let bad : was_begun Memory ≡ true = ap was_begun (sym memory) ∙ starts.begun in cc))
  where
    by : AnswersBegin q h e.reply → (IsLiveQuery q h → ⊥) × (IsOld q h → ⊥)
    by (IsOldOne top greatest_is low is) = absurd (let bad : was_begun (Begun (Err (Old top))) ≡ true = ap was_begun (sym is) ∙ starts.begun in cc)
    by (IsTwice young live is) = absurd (let bad : was_begun (Begun (Err Twice)) ≡ true = ap was_begun (sym is) ∙ starts.begun in cc)
    by (IsNew young dead is) = (dead, young)

begin_adds : (c : ConnKey) (e : Entry) (q : ℕ) (ends : List ConnEnd) → e.ask ≡ Begin q ends → AddsNone c e
begin_adds c e q ends is = record {
  puts_none = ap (λ a. chunk_put c a e.reply) is;
  finishes_none = ap (λ a. is_finish c a e.reply) is;
  hears_none = ap (λ a. heard_by c a e.reply) is;
}

at_rest_then : (place : Place) (h : List Entry) (e : Entry) → HubLaw place h → HubPoint place h e → ((end : ConnEnd) → end.sending ≡ true → IsHere end h → EmitsDue place.settings end h e) → IsAtRest place h → IsAtRest place (h ++ e ∷ [])
at_rest_then place h e law point due old = record {
  drained = λ end sends here going. elim (here_pull end h e here) [
    | inl starts ↦
        let young = not_before place end.key.query h e starts.0 point starts.1 in
        nothing_drained place.settings end.key (h ++ e ∷ [])
        (nothing_then end.key h e (begin_adds end.key e end.key.query starts.0 starts.1.ask)
        (old.nothing end.key (λ other there key side. young.0 (there.ends, subst (λ (k : ConnKey). IsLive k.query there.ends h) key there.live)) young.1))
    | inr there ↦ drained_then place h e end point sends there (due end sends there) (old.drained end sends there) going
  ];
  nothing = λ c away young.
      let away_before : IsUnknownKey true c h = (λ end here key side. elim (told_among (leaves e) c.query) [
        | inl left ↦ young (old_now c.query h e left)
        | inr stays ↦ away end (record { ends = here.ends; live = live_push end.key.query here.ends h e here.live (λ at. stays (subst (λ (k : ConnKey). Contains (leaves e) k.query) key at)); stands = here.stands }) key side
      ]) in
      nothing_then c h e (adds_none place c h e point away_before) (old.nothing c away_before (λ was. young (old_push c.query h e was)));
}

record BothPoints (place : Place) (h : List Entry) (e : Entry) : Type 0 where
  pub hub : HubPoint place h e
  pub due : (end : ConnEnd) → end.sending ≡ true → IsHere end h → EmitsDue place.settings end h e

pub at_rest : (place : Place) (h : List Entry) → HubLaw place h → EmissionLaw place h → IsAtRest place h
at_rest place h law emission =
    fold_every (BothPoints place) (IsAtRest place) h first
    (λ before e after at points old. at_rest_then place before e (every_front (HubPoint place) before (e ∷ after) (subst (HubLaw place) at law)) points.hub points.due old)
    (λ before e after at. record { hub = law before e after at; due = (emission before e after at).due })
  where
    first : IsAtRest place []
    first = record {
      drained = λ end sends here going. nothing_drained place.settings end.key [] (record { chunks = refl; unfinished = refl; heard = refl });
      nothing = λ c away young. record { chunks = refl; unfinished = refl; heard = refl };
    }
