-- The end of every event: what there is room for is emitted, and the connection stands for the entry.
use Rattle.std.proofs.Common.{◌≡◌, ℕ, zero, suc, ◌+◌, ◌-◌, ◌≤◌, min, List, [], ◌∷◌, ◌++◌, length, map, Bool, true, false, cond, ◌&&◌, Option, Some, None, refl, ap, sym, ◌∙◌, subst, arith, inl, inr, ◌⊎◌, append_assoc, slice_get}
use Rattle.std.specs.Prelude.{nat_lt, nat_le}
use Rattle.std.specs.List.{flat_map, Contains, AllByRecursion}
use Rattle.std.proofs.lemmas.List.Elements.{Contains-append_cases, Contains-append_left, Contains-append_right}
use Rattle.ic_base.specs.declared.keys.ConnEnd.{ConnEnd}
use Rattle.ic_base.specs.declared.keys.ConnKey.{ConnKey}
use Rattle.ic_base.specs.declared.settings.Settings.{Settings}
use Rattle.ic_base.specs.declared.datagram.Datagram.{Datagram}
use Rattle.ic_base.specs.Settings.{AreChecked}
use Rattle.ic_expire.specs.declared.item.Item.{Item}
use Rattle.ic_expire.specs.Queue.{with_item}
use Rattle.ic_expire.proofs.Holding.{put_holds}
use Rattle.ic_window.specs.State.{WindowState}
use Rattle.ic_window.specs.Window.{room_of, times}
use Rattle.ic_window.specs.Waiting.{wait_of}
use Rattle.ic_window.specs.declared.round_trip.RoundTrip.{RoundTrip}
use Rattle.ic_window.proofs.Growth.{waits_rise}
use Rattle.ic_law.specs.declared.history.Entry.{Entry}
use Rattle.ic_header.specs.Packets.{RowPacket, row_datagram}
use Rattle.ic_law.specs.History.{emits, emitted_of, rows_in, rows_emitted_of, number_of, sent_upto}
use Rattle.ic_law.specs.Hearing.{stopped_of, run_heard, consumed_heard}
use Rattle.ic_law.specs.Filling.{Sealed, sealed_of}
use Rattle.ic_law.specs.Points.{SentUpto}
use Rattle.ic_law.specs.Clock.{clock_of}
use Rattle.ic_law.specs.Timers.{Timer, Asked, Timing, wait_in}
use Rattle.ic_law.specs.Timing.{timing_of, settled, fresh_timer, moved, row_at, rows_at, numbers_behind, standing}
use Rattle.ic_law.specs.Emitting.{rows_then, again_numbers}
use Rattle.ic_law.specs.Armed.{IsSoon}
use Rattle.ic_law.proofs.Lists.{Contains-none, Contains-head, Contains-tail, head_or_tail, map-append, Contains-map}
use Rattle.ic_law.proofs.Readings.{emitted_of-push, rows_emitted_of-push}
use Rattle.ic_law.proofs.Timings.{timing_of-push}
use Rattle.ic_sender.specs.declared.flight.Flight.{Flight}
use Rattle.ic_sender.specs.Sending.{Sending, row_of, kept_at, capacity, count_next, rows_next, flight_of, asked_next, sending, emitting, waiting, waits_next}
use Rattle.ic_sender.specs.Standing.{IsNamed, Waits, Alike, item_of, IsPayload, Reads, Mirrors, IsSettled, Reflects}
use Rattle.ic_sender.proofs.Lists.{in_behind, behind-append, joined_same, map_map}
use Rattle.ic_sender.proofs.Sent.{AreSealed, row_there, rows_at-append, numbers-rows_at, in_rows_at, sent_again, sent_next, greatest_sent}
use Rattle.ic_sender.proofs.Carrying.{AllTravel}

-- A connection as an event makes it, before anything is emitted for the first time, is what the history with the event's
-- entry says of it, what was emitted aside.
pub record Ready (m : Sending) (held : List Item) (h : List Entry) (e : Entry) : Type 0 where
  pub names : IsNamed m.end
  pub checked : AreChecked m.settings
  pub running : m.stopped ≡ false
  pub runs : stopped_of m.end.key (h ++ e ∷ []) ≡ false
  pub reads : Reads m (h ++ e ∷ [])
  pub mirrors : Mirrors m held (sealed_of m.end.key m.settings (h ++ e ∷ [])) (moved m.end.key h e (timing_of m.end.key m.settings h)) (clock_of (h ++ e ∷ []))
  pub sent : SentUpto (sealed_of m.end.key m.settings (h ++ e ∷ [])) (rows_emitted_of m.end.key h) m.sent
  pub made : (d : Datagram) (p : RowPacket) → Contains (emitted_of h) d → rows_in m.end.key d ≡ p ∷ [] → d ≡ row_datagram m.end p

-- ---- what goes out

pub next_within : (m : Sending) (packets : List Sealed) → length packets ≡ m.sealed → m.sent ≤ length packets → m.sent + count_next m ≤ length packets
next_within m packets len le = omega (arith, len, le)

pub rows_next-are : (m : Sending) (held : List Item) (packets : List Sealed) (t : Timing) (clock : ℕ) → Mirrors m held packets t clock → m.sent ≤ length packets
    → rows_next m ≡ rows_at packets (numbers_behind m.sent (count_next m))
rows_next-are m held packets t clock mirrors le =
    joined_same (λ n. row_of (kept_at m.kept n)) (λ n. row_at (slice_get packets (n - 1)) n) (numbers_behind m.sent (count_next m))
    (λ n at. let w = in_behind m.sent (count_next m) n at in mirrors.kept n (omega (arith, w.0, mirrors.up)) (omega (arith, w.1, mirrors.sealed, le)))

-- ---- sizes

pub size_at : (packet : ℕ) (packets : List Sealed) (k : ℕ) (s : Sealed) → AllByRecursion (IsPayload packet) packets → slice_get packets k ≡ Some s → IsPayload packet s
size_at packet [] k s all h = let bad : None ≡ Some s = h in cc
size_at packet (p ∷ packets) zero s all h = let same : p ≡ s = cc in subst (IsPayload packet) same all.0
size_at packet (p ∷ packets) (suc k) s all h = size_at packet packets k s all.1 h

pub rows_travel : (m : Sending) (held : List Item) (packets : List Sealed) (t : Timing) (clock : ℕ) (numbers : List ℕ) → AreChecked m.settings → Mirrors m held packets t clock → AreSealed packets numbers
    → AllTravel (rows_at packets numbers)
rows_travel m held packets t clock numbers checked mirrors are p at =
    let w = in_rows_at packets numbers p at in
    let size = size_at m.settings.packet packets (p.seq - 1) _ mirrors.sizes w.1 in
    let range = are p.seq w.0 in
    record { least = size.0; most = omega (arith, size.1, checked.greatest_packet); number = omega (arith, range.1, mirrors.sealed, mirrors.small) }

-- ---- what waits

waiting_keeps : (conn due : ℕ) (numbers : List ℕ) (held : List Item) (y : Item) → Contains held y → Contains (waiting conn due numbers held) y
waiting_keeps conn due [] held y h = h
waiting_keeps conn due (n ∷ numbers) held y h =
    waiting_keeps conn due numbers (with_item (record { due = due; conn = conn; seq = n }) held) y ((put_holds held (record { due = due; conn = conn; seq = n }) y).1 (inr h))

waiting_has : (conn due : ℕ) (numbers : List ℕ) (held : List Item) (n : ℕ) → Contains numbers n → Contains (waiting conn due numbers held) (record { due = due; conn = conn; seq = n })
waiting_has conn due [] held n h = absurd (Contains-none n h)
waiting_has conn due (m ∷ numbers) held n h =
    let x : Item = record { due = due; conn = conn; seq = m } in
    elim (head_or_tail m numbers n h) [
      | inl same ↦
          waiting_keeps conn due numbers (with_item x held) (record { due = due; conn = conn; seq = n })
          (subst (λ (k : ℕ). Contains (with_item x held) (record { due = due; conn = conn; seq = k })) same ((put_holds held x x).1 (inl refl)))
      | inr later ↦ waiting_has conn due numbers (with_item x held) n later
    ]

pub waiting_is : (conn due : ℕ) (numbers : List ℕ) (held : List Item) (y : Item) → Contains (waiting conn due numbers held) y
    → Contains held y ⊎ ((n : ℕ) × Contains numbers n × (y ≡ record { due = due; conn = conn; seq = n }))
waiting_is conn due [] held y h = inl h
waiting_is conn due (m ∷ numbers) held y h =
    let x : Item = record { due = due; conn = conn; seq = m } in
    elim (waiting_is conn due numbers (with_item x held) y h) [
      | inl old ↦ elim ((put_holds held x y).0 old) [
        | inl same ↦ inr (m, Contains-head m numbers, same)
        | inr older ↦ inl older
      ]
      | inr new ↦ inr (new.0, Contains-tail m numbers new.0 new.1, new.2)
    ]

-- ---- pairs

pub alike_weaken : (R S : Flight → Timer → Type 0) (fs : List Flight) (ts : List Timer) → ((f : Flight) (t : Timer) → R f t → S f t) → Alike R fs ts → Alike S fs ts
alike_weaken R S [] [] weak h = h
alike_weaken R S [] (t ∷ ts) weak h = h
alike_weaken R S (f ∷ fs) [] weak h = h
alike_weaken R S (f ∷ fs) (t ∷ ts) weak h = (weak f t h.0, alike_weaken R S fs ts weak h.1)

pub alike_append : (R : Flight → Timer → Type 0) (fs gs : List Flight) (ts us : List Timer) → Alike R fs ts → Alike R gs us → Alike R (fs ++ gs) (ts ++ us)
alike_append R [] gs [] us h k = k
alike_append R [] gs (t ∷ ts) us h k = absurd h
alike_append R (f ∷ fs) gs [] us h k = absurd h
alike_append R (f ∷ fs) gs (t ∷ ts) us h k = (h.0, alike_append R fs gs ts us h.1 k)

-- the packets that go out are on their way as the timing has them
fresh_alike : (end : ConnEnd) (packets : List Sealed) (conn clock : ℕ) (w : WindowState) (held : List Item) (numbers : List ℕ) → AreSealed packets numbers
    → ((n : ℕ) → Contains numbers n → Contains held (record { due = clock + wait_in w 0; conn = conn; seq = n })) → IsSoon clock (clock + wait_in w 0)
    → Alike (Waits end packets conn held clock) (map (flight_of end clock) (rows_at packets numbers)) (map (fresh_timer clock w) numbers)
fresh_alike end packets conn clock w held [] are waits soon = tt
fresh_alike end packets conn clock w held (n ∷ numbers) are waits soon =
    let range = are n (Contains-head n numbers) in
    let s = row_there packets n range.0 range.1 in
    let p : RowPacket = record { seq = n; payload = s.0.payload; last = s.0.last } in
    let first : Waits end packets conn held clock (flight_of end clock p) (fresh_timer clock w n) = record {
      seq = refl;
      tries = refl;
      since = refl;
      resent = refl;
      waits = waits n (Contains-head n numbers);
      soon = soon;
      same = ap (λ o. map (row_datagram end) (row_at o n)) s.1;
    } in
    let rest = fresh_alike end packets conn clock w held numbers (λ m at. are m (Contains-tail n numbers m at)) (λ m at. waits m (Contains-tail n numbers m at)) soon in
    subst (λ o. Alike (Waits end packets conn held clock) (map (flight_of end clock) (row_at o n ++ rows_at packets numbers)) (map (fresh_timer clock w) (n ∷ numbers))) (sym s.1) (first, rest)

-- ---- the timing

-- what the end of an event makes of a timing
shape : (depth sealed sent run consumed clock : ℕ) → WindowState → List Timer → Option Asked → Timing
shape depth sealed sent run consumed clock w timers asked =
    let n = min (sealed - sent) (room_of w.window (sent - run) (depth - (sent - consumed))) in
    record {
      window = w;
      timers = timers ++ map (fresh_timer clock w) (numbers_behind sent n);
      asked = cond (nat_lt 0 (depth - ((sent + n) - consumed))) None (cond (nat_le (sent + n) run && nat_lt (sent + n) sealed) (standing clock w asked) asked);
    }

-- what it leaves of a connection's
abbrev pub left_timing : Sending → Timing → ℕ → Timing
left_timing m t clock =
    record {
      window = m.window;
      timers = t.timers ++ map (fresh_timer clock m.window) (numbers_behind m.sent (count_next m));
      asked = asked_next clock (sending clock (count_next m) (rows_next m) m);
    }

settled_is : (c : ConnKey) (settings : Settings) (h now : List Entry) (t : Timing)
    → settled c settings h now t ≡ shape settings.receive_depth (length (sealed_of c settings now)) (sent_upto c h) (run_heard c now) (consumed_heard c now) (clock_of now) t.window t.timers t.asked
unfolding shape
settled_is c settings h now t = refl

left_is : (m : Sending) (t : Timing) (clock : ℕ) → shape m.settings.receive_depth m.sealed m.sent m.acked m.consumed clock m.window t.timers m.asked ≡ left_timing m t clock
unfolding shape
left_is m t clock = refl

pub timing_left : (m : Sending) (held : List Item) (h : List Entry) (e : Entry) → Ready m held h e
    → timing_of m.end.key m.settings (h ++ e ∷ []) ≡ left_timing m (moved m.end.key h e (timing_of m.end.key m.settings h)) (clock_of (h ++ e ∷ []))
timing_left m held h e ready =
    let c = m.end.key in
    let now = h ++ e ∷ [] in
    let t = moved c h e (timing_of c m.settings h) in
    let depth = m.settings.receive_depth in
    let clock = clock_of now in
    timing_of-push c m.settings h e
    ∙ ap (λ b. cond b (record (timing_of c m.settings h) { timers = []; asked = None }) (settled c m.settings h now t)) ready.runs
    ∙ settled_is c m.settings h now t
    ∙ ap (λ x. shape depth x (sent_upto c h) (run_heard c now) (consumed_heard c now) clock t.window t.timers t.asked) ready.mirrors.sealed
    ∙ ap (λ x. shape depth m.sealed x (run_heard c now) (consumed_heard c now) clock t.window t.timers t.asked) (greatest_sent (sealed_of c m.settings now) (rows_emitted_of c h) m.sent ready.sent)
    ∙ ap (λ x. shape depth m.sealed m.sent x (consumed_heard c now) clock t.window t.timers t.asked) ready.reads.run
    ∙ ap (λ x. shape depth m.sealed m.sent m.acked x clock t.window t.timers t.asked) ready.reads.consumed
    ∙ ap (λ x. shape depth m.sealed m.sent m.acked m.consumed clock x t.timers t.asked) ready.mirrors.window
    ∙ ap (λ x. shape depth m.sealed m.sent m.acked m.consumed clock m.window t.timers x) ready.mirrors.asked
    ∙ left_is m t clock

-- ---- nothing more is to be emitted

none_left : (m : Sending) (clock : ℕ) → m.consumed ≤ m.acked → m.acked ≤ m.sent → count_next (emitting clock m) ≡ 0
none_left m clock taken up = omega (arith, taken, up)

asked_once : (b d : Bool) (now clock : ℕ) (w : WindowState) (a : Option Asked)
    → cond b None (cond d (standing now w (cond b None (cond d (standing clock w a) a))) (cond b None (cond d (standing clock w a) a))) ≡ cond b None (cond d (standing clock w a) a)
asked_once true d now clock w a = refl
asked_once false true now clock w None = refl
asked_once false true now clock w (Some a) = refl
asked_once false false now clock w a = refl

pub settles : (m : Sending) (clock : ℕ) → m.consumed ≤ m.acked → m.acked ≤ m.sent → IsSettled (emitting clock m)
settles m clock taken up =
    let s = sending clock (count_next m) (rows_next m) m in
    record {
      none = none_left m clock taken up;
      query = λ now. asked_once (nat_lt 0 (capacity s)) (nat_le s.sent s.acked && nat_lt s.sent s.sealed) now clock m.window m.asked;
    }

-- ---- the due of what is emitted

least_wait : (r : Option RoundTrip) → 2 ≤ wait_of 0 r
unfolding times
least_wait None = omega arith
least_wait (Some r) = omega arith

waits_least : (tries : ℕ) (r : Option RoundTrip) → 2 ≤ wait_of tries r
waits_least zero r = least_wait r
waits_least (suc tries) r =
    let i = waits_least tries r in
    let next : tries + 1 ≡ suc tries = omega arith in
    let rises = subst (λ n. wait_of tries r ≤ wait_of n r) next (waits_rise tries r).0 in
    omega (arith, i, rises)

pub waits_two : (w : WindowState) → 2 ≤ wait_in w 0
waits_two w = least_wait w.round_trip

-- what waits is due soon
pub waits_soon : (w : WindowState) (tries clock : ℕ) → IsSoon clock (clock + wait_in w tries)
waits_soon w tries clock = let least = waits_least tries w.round_trip in record { later = omega (arith, least); near = omega arith }

asked_soon : (b d : Bool) (clock : ℕ) (w : WindowState) (a : Option Asked) → ((x : Asked) → a ≡ Some x → IsSoon clock x.due)
    → (x : Asked) → cond b None (cond d (standing clock w a) a) ≡ Some x → IsSoon clock x.due
asked_soon true d clock w a old x h = let bad : None ≡ Some x = h in cc
asked_soon false true clock w (Some a) old x h = old x h
asked_soon false true clock w None old x h =
    let same : record { due = clock + wait_in w 0; tries = 0 } ≡ x = cc in
    subst (λ (y : Asked). IsSoon clock y.due) same (waits_soon w 0 clock)
asked_soon false false clock w a old x h = old x h

-- ---- the whole

numbers_at : (f : ConnEnd) (clock : ℕ) (rows : List RowPacket) → map (λ (x : Flight). x.seq) (map (flight_of f clock) rows) ≡ map number_of rows
numbers_at f clock rows = map_map (λ (x : Flight). x.seq) (flight_of f clock) rows

mirrors_after : (m : Sending) (held : List Item) (packets : List Sealed) (t : Timing) (clock : ℕ) → Mirrors m held packets t clock → m.sent ≤ length packets
    → Mirrors (emitting clock m) (waits_next clock m held) packets (left_timing m t clock) clock
mirrors_after m held packets t clock mirrors le =
    let n = count_next m in
    let fresh = numbers_behind m.sent n in
    let within = next_within m packets mirrors.sealed le in
    let are : AreSealed packets fresh = (λ k at. let w = in_behind m.sent n k at in (omega (arith, w.0), omega (arith, w.1, within))) in
    let rows : rows_next m ≡ rows_at packets fresh = rows_next-are m held packets t clock mirrors le in
    let seqs : map number_of (rows_next m) ≡ fresh = ap (map number_of) rows ∙ numbers-rows_at packets fresh are in
    let due = clock + wait_in m.window 0 in
    let later : waits_next clock m held ≡ waiting m.conn due fresh held = ap (λ l. waiting m.conn due l held) seqs in
    let old : Alike (Waits m.end packets m.conn (waiting m.conn due fresh held) clock) m.flights t.timers =
    alike_weaken (Waits m.end packets m.conn held clock) (Waits m.end packets m.conn (waiting m.conn due fresh held) clock) m.flights t.timers
    (λ f x w. record {
      seq = w.seq;
      tries = w.tries;
      since = w.since;
      resent = w.resent;
      waits = waiting_keeps m.conn due fresh held (item_of m.conn x) w.waits;
      soon = w.soon;
      same = w.same;
    }) mirrors.timers in
    let new : Alike (Waits m.end packets m.conn (waiting m.conn due fresh held) clock) (map (flight_of m.end clock) (rows_at packets fresh)) (map (fresh_timer clock m.window) fresh) =
    fresh_alike m.end packets m.conn clock m.window (waiting m.conn due fresh held) fresh are (λ k at. waiting_has m.conn due fresh held k at) (waits_soon m.window 0 clock) in
    let both = alike_append (Waits m.end packets m.conn (waiting m.conn due fresh held) clock) m.flights (map (flight_of m.end clock) (rows_at packets fresh)) t.timers (map (fresh_timer clock m.window) fresh) old new in
    let s = sending clock n (rows_next m) m in
    record {
      sealed = mirrors.sealed;
      small = mirrors.small;
      sizes = mirrors.sizes;
      numbers = mirrors.numbers;
      kept = mirrors.kept;
      up = omega (arith, mirrors.up);
      taken = mirrors.taken;
      flights = map-append (λ (f : Flight). f.seq) m.flights (map (flight_of m.end clock) (rows_next m))
          ∙ ap (λ l. l ++ map (λ (f : Flight). f.seq) (map (flight_of m.end clock) (rows_next m))) mirrors.flights
          ∙ ap (λ l. numbers_behind m.acked (m.sent - m.acked) ++ l) (numbers_at m.end clock (rows_next m) ∙ seqs)
          ∙ ap (λ b. numbers_behind m.acked (m.sent - m.acked) ++ numbers_behind b n) (let e : m.sent ≡ m.acked + (m.sent - m.acked) = omega (arith, mirrors.up) in e)
          ∙ sym (behind-append m.acked (m.sent - m.acked) n)
          ∙ ap (numbers_behind m.acked) (let e : (m.sent - m.acked) + n ≡ m.sent + n - m.acked = omega (arith, mirrors.up) in e);
      timers = subst (λ l. Alike (Waits m.end packets m.conn l clock) (m.flights ++ map (flight_of m.end clock) (rows_next m)) (t.timers ++ map (fresh_timer clock m.window) fresh)) (sym later)
          (subst (λ l. Alike (Waits m.end packets m.conn (waiting m.conn due fresh held) clock) (m.flights ++ map (flight_of m.end clock) l) (t.timers ++ map (fresh_timer clock m.window) fresh)) (sym rows) both);
      alone = λ y at mine. elim (waiting_is m.conn due fresh held y (subst (λ l. Contains l y) later at)) [
        | inl before ↦ let w = mirrors.alone y before mine in (w.0, Contains-append_left t.timers (map (fresh_timer clock m.window) fresh) w.0 w.1, w.2)
        | inr now ↦ (
          fresh_timer clock m.window now.0,
          Contains-append_right t.timers (map (fresh_timer clock m.window) fresh) (fresh_timer clock m.window now.0) (Contains-map (fresh_timer clock m.window) fresh now.0 now.1),
          now.2,
        )
      ];
      window = refl;
      depth = mirrors.depth;
      least = mirrors.least;
      asked = refl;
      asked_soon = asked_soon (nat_lt 0 (capacity s)) (nat_le s.sent s.acked && nat_lt s.sent s.sealed) clock m.window m.asked mirrors.asked_soon;
    }

-- a connection that is ready emits, and is what the history with the entry says of it
pub emits_on : (m : Sending) (held : List Item) (h : List Entry) (e : Entry) (again : List ℕ) → Ready m held h e → ((n : ℕ) → Contains again n → (1 ≤ n) × (n ≤ m.sent))
    → flat_map (rows_in m.end.key) (emits e) ≡ rows_at (sealed_of m.end.key m.settings (h ++ e ∷ [])) again ++ rows_next m
    → ((d : Datagram) (p : RowPacket) → Contains (emits e) d → rows_in m.end.key d ≡ p ∷ [] → d ≡ row_datagram m.end p)
    → Reflects (emitting (clock_of (h ++ e ∷ [])) m) (waits_next (clock_of (h ++ e ∷ [])) m held) (h ++ e ∷ [])
emits_on m held h e again ready old rows made =
    let c = m.end.key in
    let now = h ++ e ∷ [] in
    let packets = sealed_of c m.settings now in
    let clock = clock_of now in
    let n = count_next m in
    let t = moved c h e (timing_of c m.settings h) in
    let le = ready.sent.within in
    let within = next_within m packets ready.mirrors.sealed le in
    let next = rows_next-are m held packets t clock ready.mirrors le in
    let sent = sent_next packets (rows_emitted_of c h ++ rows_at packets again) m.sent n within (sent_again packets (rows_emitted_of c h) m.sent again old ready.sent) in
    let all : rows_emitted_of c now ≡ (rows_emitted_of c h ++ rows_at packets again) ++ rows_at packets (numbers_behind m.sent n) =
    rows_emitted_of-push c h e ∙ ap (λ l. rows_emitted_of c h ++ l) (rows ∙ ap (λ l. rows_at packets again ++ l) next)
    ∙ sym (append_assoc (rows_emitted_of c h) (rows_at packets again) (rows_at packets (numbers_behind m.sent n))) in
    record {
      names = ready.names;
      checked = ready.checked;
      sent = subst (λ l. SentUpto packets l (m.sent + n)) (sym all) sent;
      made = λ d p at reads. elim (Contains-append_cases (emitted_of h) (emits e) d (subst (λ l. Contains l d) (emitted_of-push h e) at)) [
        | inl before ↦ ready.made d p before reads
        | inr here ↦ made d p here reads
      ];
      stopped = ready.runs ∙ sym ready.running;
      runs = λ on. record {
        reads = record {
          finished = ready.reads.finished;
          opened = ready.reads.opened;
          least = ready.reads.least;
          most = ready.reads.most;
          run = ready.reads.run;
          consumed = ready.reads.consumed;
        };
        mirrors = subst (λ x. Mirrors (emitting clock m) (waits_next clock m held) packets x clock) (sym (timing_left m held h e ready)) (mirrors_after m held packets t clock ready.mirrors le);
        settled = settles m clock ready.mirrors.taken ready.mirrors.up;
      };
      still = λ off. absurd (let bad : true ≡ false = sym off ∙ ready.running in cc);
    }

-- and these are the packets that the law wants of the entry
pub rows_are : (m : Sending) (held : List Item) (h : List Entry) (e : Entry) (again : List ℕ) → Ready m held h e → again ≡ again_numbers m.end.key h e (timing_of m.end.key m.settings h)
    → rows_at (sealed_of m.end.key m.settings (h ++ e ∷ [])) again ++ rows_next m ≡ rows_then m.end.key m.settings h e
rows_are m held h e again ready is =
    let c = m.end.key in
    let now = h ++ e ∷ [] in
    let packets = sealed_of c m.settings now in
    let w = (moved c h e (timing_of c m.settings h)).window in
    let count : ℕ → ℕ → ℕ → ℕ → WindowState → ℕ = (λ len sent run consumed v. min (len - sent) (room_of v.window (sent - run) (m.settings.receive_depth - (sent - consumed)))) in
    let numbers : List ℕ → Bool → List RowPacket = (λ l b. cond b [] (rows_at packets l)) in
    let sent = sent_upto c h in
    let counts : count_next m ≡ count (length packets) sent (run_heard c now) (consumed_heard c now) w =
    ap (λ x. count x m.sent m.acked m.consumed m.window) (sym ready.mirrors.sealed)
    ∙ ap (λ x. count (length packets) x m.acked m.consumed m.window) (sym (greatest_sent packets (rows_emitted_of c h) m.sent ready.sent))
    ∙ ap (λ x. count (length packets) sent x m.consumed m.window) (sym ready.reads.run)
    ∙ ap (λ x. count (length packets) sent (run_heard c now) x m.window) (sym ready.reads.consumed)
    ∙ ap (λ x. count (length packets) sent (run_heard c now) (consumed_heard c now) x) (sym ready.mirrors.window) in
    ap (λ l. rows_at packets again ++ l) (rows_next-are m held packets (moved c h e (timing_of c m.settings h)) (clock_of now) ready.mirrors ready.sent.within)
    ∙ sym (rows_at-append packets again (numbers_behind m.sent (count_next m)))
    ∙ ap (λ l. rows_at packets (again ++ numbers_behind l (count_next m))) (sym (greatest_sent packets (rows_emitted_of c h) m.sent ready.sent))
    ∙ ap (λ l. rows_at packets (again ++ numbers_behind sent l)) counts
    ∙ ap (λ l. rows_at packets (l ++ numbers_behind sent (count (length packets) sent (run_heard c now) (consumed_heard c now) w))) is
    ∙ sym (ap (λ b. cond b [] (rows_at packets (again_numbers c h e (timing_of c m.settings h) ++ numbers_behind sent (count (length packets) sent (run_heard c now) (consumed_heard c now) w)))) ready.runs)
