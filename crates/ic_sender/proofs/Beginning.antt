-- A new connection stands for each history in which nothing of it is, and passes over what doesn't concern it.
use Rattle.std.proofs.Common.{◌≡◌, ℕ, ◌-◌, ◌≤◌, lit<, List, [], ◌∷◌, ◌++◌, length, map, Bool, true, false, cond, ◌==◌, Option, Some, None, refl, ap, sym, ◌∙◌, subst, arith, inl}
use Rattle.std.specs.Prelude.{nat_lt}
use Rattle.std.specs.List.{flat_map, list_any, AllByRecursion}
use Rattle.std.specs.Option.{option_map}
use Rattle.ic_base.specs.declared.keys.ConnEnd.{ConnEnd}
use Rattle.ic_base.specs.declared.keys.ConnKey.{ConnKey}
use Rattle.ic_base.specs.declared.settings.Settings.{Settings}
use Rattle.ic_base.specs.declared.settings.Flow.{Flow}
use Rattle.ic_base.specs.declared.settings.Flow.TheVariants.{Loss, Capacity}
use Rattle.ic_base.specs.Settings.{AreChecked}
use Rattle.ic_chunk.specs.Assembly.{together}
use Rattle.ic_expire.specs.declared.item.Item.{Item}
use Rattle.ic_window.specs.State.{fresh, fresh_window}
use Rattle.ic_law.specs.declared.history.Entry.{Entry}
use Rattle.ic_header.specs.Packets.{RowPacket}
use Rattle.ic_law.specs.History.{emits, rows_in, rows_emitted_of}
use Rattle.ic_law.specs.Hearing.{hears, is_stop}
use Rattle.ic_law.specs.Filling.{Sealed, filling, sealed_of}
use Rattle.ic_law.specs.Points.{SentUpto}
use Rattle.ic_law.specs.Clock.{clock_of, ticks_by}
use Rattle.ic_law.specs.Timers.{Timer, Asked, Timing, timing_ticked, lost_where, due_numbers, tried, asked_again}
use Rattle.ic_law.specs.Timing.{timing_of, moved, heard_then, rows_at}
use Rattle.ic_law.proofs.Lists.{Contains-none}
use Rattle.ic_law.proofs.Readings.{fold_every, every_none}
use Rattle.ic_law.proofs.Timings.{timing_of-none}
use Rattle.ic_sender.specs.declared.flight.Flight.{Flight}
use Rattle.ic_sender.specs.Sending.{Sending, begun, emitting, rows_next}
use Rattle.ic_sender.specs.Entries.{IsBefore, IsSilent}
use Rattle.ic_sender.specs.Standing.{IsNamed, Waits, Alike, IsPayload, Mirrors, IsSettled, Reflects, KeepsSending, Stands, HoldsNone, IsUntouched}
use Rattle.ic_sender.proofs.Emitting.{Ready, emits_on}
use Rattle.ic_sender.proofs.Passing.{keeps_when, chunks_stay, finished_stays, sealed_stays, run_stays, consumed_stays, stopped_stays, settled_stays, settled_rows, settled_waits, no_datagram}
use Rattle.ic_sender.proofs.Going.{stays}

-- ---- as it begins

begun_settled : (end : ConnEnd) (conn : ℕ) (settings : Settings) → AreChecked settings → IsSettled (begun end conn settings)
begun_settled end conn settings checked =
    let low = checked.least_receive_depth in
    record { none = omega arith; query = λ now. by (nat_lt 0 (settings.receive_depth - (0 - 0))) }
  where
    by : (b : Bool) → cond {A = Option Asked} b None None ≡ None
    by true = refl
    by false = refl

fresh_least : (depth : ℕ) (flow : Flow) → 1 ≤ depth → 256 ≤ fresh_window depth flow
fresh_least depth Loss low = omega arith
fresh_least depth Capacity low = omega (arith, low)

no_timers : (R : Flight → Timer → Type 0) (ts : List Timer) → Alike R [] ts → ts ≡ []
no_timers R [] h = refl
no_timers R (t ∷ ts) h = absurd h

-- of no packet, and of a timing without timers, it has what it needs
begun_mirrors : (end : ConnEnd) (conn : ℕ) (settings : Settings) (held : List Item) (packets : List Sealed) (t : Timing) (clock : ℕ) → AreChecked settings → HoldsNone conn held → packets ≡ []
    → t.window ≡ fresh settings.receive_depth settings.flow → t.timers ≡ [] → t.asked ≡ None → Mirrors (begun end conn settings) held packets t clock
begun_mirrors end conn settings held packets t clock checked alone none window timers asked = record {
  sealed = ap length none;
  small = lit< tt;
  sizes = subst (λ l. AllByRecursion (IsPayload settings.packet) l) (sym none) tt;
  numbers = refl;
  kept = λ n low high. absurd (omega (arith, low, high));
  up = omega arith;
  taken = omega arith;
  flights = refl;
  timers = subst (λ l. Alike (Waits end packets conn held clock) [] l) (sym timers) tt;
  alone = λ y at mine. absurd (alone y at mine);
  window = window;
  depth = checked.least_receive_depth;
  least = fresh_least settings.receive_depth settings.flow checked.least_receive_depth;
  asked = asked;
  asked_soon = λ a h. let bad : None ≡ Some a = h in cc;
}

begun_none : (end : ConnEnd) (conn : ℕ) (settings : Settings) (held : List Item) → IsNamed end → AreChecked settings → HoldsNone conn held → Stands (begun end conn settings) held []
begun_none end conn settings held names checked alone = record {
  law = every_none (KeepsSending settings end);
  reflects = record {
    names = names;
    checked = checked;
    sent = record {
      within = omega arith;
      each = λ p at. absurd (Contains-none p at);
      all = λ n low high. absurd (omega (arith, low, high));
      order = λ front back p split n low lt. absurd (nothing_there front back p split);
    };
    made = λ d p at reads. absurd (Contains-none d at);
    stopped = refl;
    runs = λ on. record {
      reads = record { finished = refl; opened = λ still. refl; least = inl refl; most = let low = checked.least_packet in omega (arith, low); run = refl; consumed = refl };
      mirrors = let t = timing_of-none end.key settings in
          begun_mirrors end conn settings held [] (timing_of end.key settings []) (clock_of []) checked alone refl (ap (λ (x : Timing). x.window) t) (ap (λ (x : Timing). x.timers) t) (ap (λ (x : Timing). x.asked) t);
      settled = begun_settled end conn settings checked;
    };
    still = λ off. absurd (let bad : false ≡ true = off in cc);
  };
}
  where
    nothing_there : (front back : List RowPacket) (p : RowPacket) → [] ≡ front ++ p ∷ back → ⊥
    nothing_there [] back p h = let bad : [] ≡ p ∷ back = h in cc
    nothing_there (q ∷ front) back p h = let bad : [] ≡ q ∷ (front ++ p ∷ back) = h in cc

-- ---- while the end isn't there

-- no entry before moves the timing
begun_moved : (c : ConnKey) (h : List Entry) (e : Entry) (t : Timing) → hears c e ≡ [] → t.timers ≡ [] → t.asked ≡ None → ((moved c h e t).window ≡ t.window) × ((moved c h e t).timers ≡ []) × ((moved c h e t).asked ≡ None)
begun_moved c h e t none timers asked = by (ticks_by e.reply == 0)
  where
    by : (b : Bool) → (let m : Timing = cond b (heard_then c h (h ++ e ∷ []) t (hears c e)) (timing_ticked (clock_of (h ++ e ∷ [])) t) in (m.window ≡ t.window) × (m.timers ≡ []) × (m.asked ≡ None))
    by true =
        let same : heard_then c h (h ++ e ∷ []) t (hears c e) ≡ t = ap (heard_then c h (h ++ e ∷ []) t) none in
        (ap (λ (x : Timing). x.window) same, ap (λ (x : Timing). x.timers) same ∙ timers, ap (λ (x : Timing). x.asked) same ∙ asked)
    by false = (
      ap (λ l. lost_where (due_numbers (clock_of (h ++ e ∷ [])) l) t.window) timers,
      ap (map (tried (clock_of (h ++ e ∷ [])) t.window)) timers,
      ap (option_map (asked_again (clock_of (h ++ e ∷ [])) t.window)) asked,
    )

begun_next : (end : ConnEnd) (conn : ℕ) (settings : Settings) (held : List Item) (h : List Entry) (e : Entry) → AreChecked settings → HoldsNone conn held → IsBefore end h e → Stands (begun end conn settings) held h → Stands (begun end conn settings) held (h ++ e ∷ [])
begun_next end conn settings held h e checked alone before old =
    let c = end.key in
    let s = begun end conn settings in
    let now = h ++ e ∷ [] in
    let runs = old.reflects.runs refl in
    let t = timing_of c settings h in
    let nothing = before.nothing in
    let timers : t.timers ≡ [] = no_timers (Waits end (sealed_of c settings h) conn held (clock_of h)) t.timers runs.mirrors.timers in
    let next = begun_moved c h e t nothing.hears_none timers runs.mirrors.asked in
    let stay : sealed_of c settings now ≡ sealed_of c settings h = sealed_stays c settings h e nothing.puts_none nothing.finishes_none in
    let none : sealed_of c settings now ≡ [] = stay ∙ empty (sealed_of c settings h) runs.mirrors.sealed in
    let ready : Ready s held h e = record {
      names = old.reflects.names;
      checked = old.reflects.checked;
      running = refl;
      runs = stopped_stays c h e (ap (list_any is_stop) nothing.hears_none) ∙ old.reflects.stopped;
      reads = record {
        finished = finished_stays c h e nothing.finishes_none ∙ runs.reads.finished;
        opened = λ on. ap (λ l. together (filling settings.packet l).opened) (chunks_stay c h e nothing.puts_none) ∙ runs.reads.opened on;
        least = runs.reads.least;
        most = runs.reads.most;
        run = run_stays c h e nothing.hears_none ∙ runs.reads.run;
        consumed = consumed_stays c h e nothing.hears_none ∙ runs.reads.consumed;
      };
      mirrors = begun_mirrors end conn settings held (sealed_of c settings now) (moved c h e t) (clock_of now) checked alone none (next.0 ∙ runs.mirrors.window) next.1 next.2;
      sent = subst (λ l. SentUpto l (rows_emitted_of c h) 0) (sym stay) old.reflects.sent;
      made = old.reflects.made;
    } in
    let settled = begun_settled end conn settings checked in
    let rows : flat_map (rows_in c) (emits e) ≡ rows_at (sealed_of c settings now) [] ++ rows_next s = nothing.rows ∙ sym (settled_rows s settled) in
    let reflects = emits_on s held h e [] ready (λ n at. absurd (Contains-none n at)) rows (λ d p at reads. absurd (no_datagram (rows_in c) (emits e) d p nothing.rows at reads)) in
    let same : Reflects s held now = subst (λ (x : Sending). Reflects x held now) (settled_stays s (clock_of now) settled)
    (subst (λ l. Reflects (emitting (clock_of now) s) l now) (settled_waits s (clock_of now) held settled) reflects) in
    keeps_when s held h e old.law same (λ here. absurd (before.away here)) (λ here. absurd (before.away here))
  where
    empty : (packets : List Sealed) → length packets ≡ 0 → packets ≡ []
    empty [] e = refl
    empty (p ∷ packets) e = absurd (omega (arith, e))

pub begun_stands : (end : ConnEnd) (conn : ℕ) (settings : Settings) (held : List Item) (h : List Entry) → IsNamed end → AreChecked settings → HoldsNone conn held → IsUntouched end h → Stands (begun end conn settings) held h
begun_stands end conn settings held h names checked alone untouched =
    fold_every (IsBefore end) (Stands (begun end conn settings) held) h (begun_none end conn settings held names checked alone)
    (λ before e after split point stands. begun_next end conn settings held before e checked alone point stands) untouched

-- ---- others

pub others_pass : (s : Sending) (held : List Item) (h : List Entry) (e : Entry) → IsSilent s.end h e → Stands s held h → Stands s held (h ++ e ∷ [])
others_pass s held h e silent old =
    stays s held h e silent.nothing silent.still
    (λ here. record {
      put = λ chunk ask kept. absurd (kept (silent.put here chunk ask));
      finish = λ ask kept. absurd (kept (silent.finish here ask));
      heard = λ d p ask directed reads back key kept. absurd (kept (silent.heard here d p ask directed reads back key));
    }) old
