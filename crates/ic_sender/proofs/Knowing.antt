-- What follows for a connection that stands for a history.
use Rattle.std.proofs.Common.{◌≡◌, ℕ, zero, suc, ◌+◌, ◌-◌, ◌<◌, ◌≤◌, min, List, [], ◌∷◌, ◌++◌, length, map, Bool, true, false, cond, ◌&&◌, Option, Some, None, refl, ap, sym, ◌∙◌, subst, arith, inl, inr, slice_get}
use Rattle.std.specs.Prelude.{nat_lt, nat_le}
use Rattle.std.specs.List.{Contains}
use Rattle.std.proofs.lemmas.Bool.{cases_Bool, le-leb}
use Rattle.ic_expire.specs.declared.item.Item.{Item}
use Rattle.ic_expire.specs.Queue.{held_of}
use Rattle.ic_window.specs.Window.{room_of}
use Rattle.ic_law.specs.declared.history.Entry.{Entry}
use Rattle.ic_law.specs.History.{rows_emitted_of, number_of, sent_upto}
use Rattle.ic_law.specs.Putting.{finished_of}
use Rattle.ic_law.specs.Hearing.{stopped_of}
use Rattle.ic_law.specs.Filling.{Sealed, plain, final, filling_of, sealed, sealed_of}
use Rattle.ic_law.specs.Points.{IsAcknowledged}
use Rattle.ic_law.specs.Clock.{clock_of}
use Rattle.ic_law.specs.Timers.{Timer, Asked, Timing}
use Rattle.ic_law.specs.Timing.{timing_of, standing}
use Rattle.ic_law.specs.Armed.{IsArmed}
use Rattle.ic_law.proofs.Lists.{Contains-none, head_or_tail, Contains-map, map-Contains}
use Rattle.ic_sender.specs.declared.flight.Flight.{Flight}
use Rattle.ic_sender.specs.Sending.{Sending, capacity}
use Rattle.ic_sender.specs.Standing.{Waits, Alike, item_of, Mirrors, Reflects, Stands, dues_held, query_at, IsOver, IsOverIn}
use Rattle.ic_sender.proofs.Lists.{behind_has, lt_yes, not_lt, length-map, length-behind}
use Rattle.ic_sender.proofs.Sent.{get_end, length-push, greatest_sent}
use Rattle.ic_sender.proofs.Dues.{to_conn, from_conn}
use Rattle.ic_sender.proofs.Emitting.{alike_weaken}

-- ---- armed

pub alike_flight : (R : Flight → Timer → Type 0) (fs : List Flight) (ts : List Timer) (f : Flight) → Alike R fs ts → Contains fs f → (t : Timer) × R f t
alike_flight R [] ts f h at = absurd (Contains-none f at)
alike_flight R (g ∷ fs) [] f h at = absurd h
alike_flight R (g ∷ fs) (t ∷ ts) f h at = elim (head_or_tail g fs f at) [ inl same ↦ (t, subst (λ x. R x t) same h.0) | inr later ↦ alike_flight R fs ts f h.1 later ]

on_of : (s : Sending) (held : List Item) (h : List Entry) → Reflects s held h → stopped_of s.end.key h ≡ false → s.stopped ≡ false
on_of s held h old on = sym old.stopped ∙ on

pub sent_is : (s : Sending) (held : List Item) (h : List Entry) → Reflects s held h → sent_upto s.end.key h ≡ s.sent
sent_is s held h old = greatest_sent (sealed_of s.end.key s.settings h) (rows_emitted_of s.end.key h) s.sent old.sent

some_standing : (b d : Bool) (now : ℕ) (s : Sending) (o : Option Asked) → b ≡ false → d ≡ true → cond b None (cond d (standing now s.window o) o) ≡ o → (a : Asked) × (o ≡ Some a)
some_standing true d now s o eb ed h = absurd (let bad : true ≡ false = eb in cc)
some_standing false false now s o eb ed h = absurd (let bad : false ≡ true = ed in cc)
some_standing false true now s None eb ed h = absurd (cc)
some_standing false true now s (Some a) eb ed h = (a, refl)

pub are_armed : (s : Sending) (held : List Item) (h : List Entry) → Stands s held h → IsArmed s.settings s.end.key h (dues_held s.conn held) (query_at s.asked)
are_armed s held h stands = record {
  packets = λ on seq low high.
      let old = stands.reflects in
      let runs = old.runs (on_of s held h old on) in
      let m = runs.mirrors in
      let at : Contains (map (λ (f : Flight). f.seq) s.flights) seq =
      subst (λ l. Contains l seq) (sym m.flights) (behind_has s.acked (s.sent - s.acked) seq (omega (arith, low, runs.reads.run)) (omega (arith, high, sent_is s held h old, m.up))) in
      let f = map-Contains (λ (x : Flight). x.seq) s.flights seq at in
      let t = alike_flight (Waits s.end (sealed_of s.end.key s.settings h) s.conn held (clock_of h)) s.flights (timing_of s.end.key s.settings h).timers f.0 m.timers f.1 in
      let number : t.0.seq ≡ seq = t.1.seq ∙ sym f.2 in
      let mine = to_conn s.conn held (item_of s.conn t.0) t.1.waits refl in
      (t.0.due, subst (λ n. Contains (dues_held s.conn held) (n, t.0.due)) number (Contains-map (λ (x : Item). (x.seq, x.due)) (held_of s.conn held) (item_of s.conn t.0) mine), t.1.soon);
  query_is = λ on still unsent.
      let old = stands.reflects in
      let runs = old.runs (on_of s held h old on) in
      let m = runs.mirrors in
      let e = sent_is s held h old in
      let flying : s.sent ≤ s.acked = omega (arith, still, e, runs.reads.run) in
      let more : s.sent < s.sealed = omega (arith, unsent, e, m.sealed) in
      let none : capacity s ≡ 0 = no_room (s.sealed - s.sent) s.window.window (s.sent - s.acked) (capacity s) m.least (omega (arith, more)) (omega (arith, flying)) runs.settled.none in
      let full : nat_lt 0 (capacity s) ≡ false = not_lt 0 (capacity s) (omega (arith, none)) in
      let wants : (nat_le s.sent s.acked && nat_lt s.sent s.sealed) ≡ true = ap (λ b. b && nat_lt s.sent s.sealed) (le-leb s.sent s.acked flying) ∙ lt_yes s.sent s.sealed more in
      let a = some_standing (nat_lt 0 (capacity s)) (nat_le s.sent s.acked && nat_lt s.sent s.sealed) 0 s s.asked full wants (runs.settled.query 0) in
      (a.0.due, ap query_at a.1, m.asked_soon a.0 a.1);
}
  where
    no_room : (unsent window flying room : ℕ) → 256 ≤ window → 0 < unsent → flying ≡ 0 → min unsent (room_of window flying room) ≡ 0 → room ≡ 0
    no_room unsent window flying room least some_ none h = omega (arith, least, some_, none, h)

-- ---- over

-- the packet that ends the stream is the last one
last_packet : (groups : List (List (List ℕ))) (group : List (List ℕ)) (k : ℕ) (s : Sealed) → slice_get (map plain groups ++ final group ∷ []) k ≡ Some s → s.last ≡ true → k ≡ length (map plain groups)
last_packet [] group zero s h last = refl
last_packet [] group (suc k) s h last = let bad : None ≡ Some s = h in cc
last_packet (g ∷ groups) group zero s h last = let same : plain g ≡ s = cc in absurd (let bad : false ≡ true = ap (λ (x : Sealed). x.last) same ∙ last in cc)
last_packet (g ∷ groups) group (suc k) s h last = ap suc (last_packet groups group k s h last)

ended_packets : (s : Sending) (h : List Entry) → finished_of s.end.key h ≡ true → sealed_of s.end.key s.settings h ≡ map plain (filling_of s.end.key s.settings h).full ++ final (filling_of s.end.key s.settings h).opened ∷ []
ended_packets s h ends = ap (sealed (filling_of s.end.key s.settings h)) ends

none_kept : (s : Sending) (held : List Item) (packets : List Sealed) (t : Timing) (clock : ℕ) → Mirrors s held packets t clock → length s.kept ≡ s.sealed - s.acked
none_kept s held packets t clock m = sym (length-map number_of s.kept) ∙ ap length m.numbers ∙ length-behind s.acked (s.sealed - s.acked)

empty_by : {A : Type 0} (xs : List A) → length xs ≡ 0 → xs ≡ []
empty_by [] e = refl
empty_by (x ∷ xs) e = absurd (omega (arith, e))

acknowledged : (s : Sending) (held : List Item) (h : List Entry) → Reflects s held h → s.stopped ≡ false → s.finished ≡ true → s.kept ≡ [] → IsAcknowledged s.end.key h
acknowledged s held h old on ends none =
    let c = s.end.key in
    let runs = old.runs on in
    let m = runs.mirrors in
    let finished : finished_of c h ≡ true = runs.reads.finished ∙ ends in
    let f = filling_of c s.settings h in
    let packets = ended_packets s h finished in
    let count : length (sealed_of c s.settings h) ≡ length (map plain f.full) + 1 = ap length packets ∙ length-push (map plain f.full) (final f.opened) in
    let kept : 0 ≡ s.sealed - s.acked = sym (ap length none) ∙ none_kept s held (sealed_of c s.settings h) (timing_of c s.settings h) (clock_of h) m in
    let all : s.sealed ≡ s.sent = omega (arith, kept, m.up, m.sealed, old.sent.within) in
    let there = old.sent.all s.sealed (omega (arith, count, m.sealed)) (omega (arith, all)) in
    let row = there.0 in
    let seq : row.seq ≡ s.sealed = there.2 in
    let is : slice_get (sealed_of c s.settings h) (row.seq - 1) ≡ Some (record { payload = row.payload; last = row.last }) = (old.sent.each row there.1).2 in
    let end : slice_get (sealed_of c s.settings h) (row.seq - 1) ≡ Some (final f.opened) =
    ap (λ k. slice_get (sealed_of c s.settings h) k) (let e : row.seq - 1 ≡ length (map plain f.full) = omega (arith, seq, m.sealed, count) in e)
    ∙ ap (λ l. slice_get l (length (map plain f.full))) packets ∙ get_end (map plain f.full) (final f.opened) in
    let both : Some (record { payload = row.payload; last = row.last }) ≡ Some (final f.opened) = sym is ∙ end in
    let same : record { payload = row.payload; last = row.last } ≡ final f.opened = cc in
    record { finished = finished; packet = row; emitted = there.1; last = ap (λ (x : Sealed). x.last) same; heard = omega (arith, seq, kept, runs.reads.run) }

over_by : (s : Sending) (held : List Item) (h : List Entry) → Reflects s held h → s.stopped ≡ false → IsAcknowledged s.end.key h → (s.finished ≡ true) × (s.kept ≡ [])
over_by s held h old on ack =
    let c = s.end.key in
    let runs = old.runs on in
    let m = runs.mirrors in
    let f = filling_of c s.settings h in
    let packets = ended_packets s h ack.finished in
    let count : length (sealed_of c s.settings h) ≡ length (map plain f.full) + 1 = ap length packets ∙ length-push (map plain f.full) (final f.opened) in
    let each = old.sent.each ack.packet ack.emitted in
    let place = last_packet f.full f.opened (ack.packet.seq - 1) (record { payload = ack.packet.payload; last = ack.packet.last })
    (ap (λ l. slice_get l (ack.packet.seq - 1)) (sym packets) ∙ each.2) ack.last in
    let kept : s.sealed - s.acked ≡ 0 = omega (arith, place, each.0, count, m.sealed, ack.heard, runs.reads.run) in
    (sym runs.reads.finished ∙ ack.finished, empty_by s.kept (none_kept s held (sealed_of c s.settings h) (timing_of c s.settings h) (clock_of h) m ∙ kept))

pub over_there : (s : Sending) (held : List Item) (h : List Entry) → Stands s held h → IsOver s → IsOverIn s.end.key h
over_there s held h stands over =
    elim (cases_Bool s.stopped) [
      | inl off ↦ inl (stands.reflects.stopped ∙ off)
      | inr on ↦ elim over [
        | inl off ↦ absurd (let bad : true ≡ false = sym off ∙ on in cc)
        | inr ended ↦ inr (acknowledged s held h stands.reflects on ended.0 ended.1)
      ]
    ]

pub over_here : (s : Sending) (held : List Item) (h : List Entry) → Stands s held h → IsOverIn s.end.key h → IsOver s
over_here s held h stands over =
    elim (cases_Bool s.stopped) [
      | inl off ↦ inl off
      | inr on ↦ elim over [
        | inl off ↦ absurd (let bad : true ≡ false = sym off ∙ stands.reflects.stopped ∙ on in cc)
        | inr ack ↦ inr (over_by s held h stands.reflects on ack)
      ]
    ]

-- ---- other connections

pub others_wait : (s : Sending) (held left : List Item) (h : List Entry) → held_of s.conn left ≡ held_of s.conn held → Stands s held h → Stands s left h
others_wait s held left h same stands =
    let old = stands.reflects in
    record {
      law = stands.law;
      reflects = record {
        names = old.names;
        checked = old.checked;
        sent = old.sent;
        made = old.made;
        stopped = old.stopped;
        runs = λ on.
            let runs = old.runs on in
            let m = runs.mirrors in
            record {
              reads = runs.reads;
              mirrors = record {
                sealed = m.sealed;
                small = m.small;
                sizes = m.sizes;
                numbers = m.numbers;
                kept = m.kept;
                up = m.up;
                taken = m.taken;
                flights = m.flights;
                timers = alike_weaken (Waits s.end (sealed_of s.end.key s.settings h) s.conn held (clock_of h)) (Waits s.end (sealed_of s.end.key s.settings h) s.conn left (clock_of h)) s.flights
                    (timing_of s.end.key s.settings h).timers
                    (λ f t w. record {
                      seq = w.seq;
                      tries = w.tries;
                      since = w.since;
                      resent = w.resent;
                      waits = from_conn s.conn left (item_of s.conn t) (subst (λ l. Contains l (item_of s.conn t)) (sym same) (to_conn s.conn held (item_of s.conn t) w.waits refl));
                      soon = w.soon;
                      same = w.same;
                    }) m.timers;
                alone = λ y at mine. m.alone y (from_conn s.conn held y (subst (λ l. Contains l y) same (to_conn s.conn left y at mine))) mine;
                window = m.window;
                depth = m.depth;
                least = m.least;
                asked = m.asked;
                asked_soon = m.asked_soon;
              };
              settled = runs.settled;
            };
        still = old.still;
      };
    }
