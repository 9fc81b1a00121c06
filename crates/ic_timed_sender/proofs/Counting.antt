-- What an entry adds to the counts of a connection: rows that end in what is put, and packets of rows that go out.
use Rattle.std.proofs.Common.{◌≡◌, ℕ, ◌+◌, ◌-◌, ◌^◌, ◌≤◌, min, List, [], ◌∷◌, ◌++◌, length, map, Bool, true, false, Result, refl, ap, sym, ◌∙◌, subst, arith, inl, inr, append-nil, length-append}
use Rattle.std.specs.Prelude.{nat_lt, filter}
use Rattle.std.specs.List.{flat_map, Contains}
use Rattle.std.proofs.lemmas.Bool.{cases_Bool}
use Rattle.std.proofs.lemmas.List.Elements.{Contains-append_right}
use Rattle.ic_base.specs.declared.keys.ConnKey.{ConnKey}
use Rattle.ic_base.specs.declared.keys.ConnEnd.{ConnEnd}
use Rattle.ic_base.specs.declared.datagram.Datagram.{Datagram}
use Rattle.ic_expire.specs.declared.item.Item.{Item}
use Rattle.ic_expire.specs.Queue.{Queue}
use Rattle.ic_law.specs.declared.history.HubReply.{HubReply}
use Rattle.ic_law.specs.declared.history.Entry.{Entry}
use Rattle.ic_header.specs.Packets.{row_datagram}
use Rattle.ic_law.specs.History.{datagrams_of, emits, rows_in, rows_emitted_of}
use Rattle.ic_law.specs.Putting.{puts, chunks_put_of}
use Rattle.ic_law.specs.Emitting.{query_due}
use Rattle.ic_law.proofs.Lists.{Contains-none, Contains-head, Contains-tail, Contains-map, map-Contains, flat_map-append}
use Rattle.ic_law.proofs.Readings.{chunks_put_of-push, rows_emitted_of-push}
use Rattle.ic_sender.specs.declared.flight.Flight.{Flight}
use Rattle.ic_sender.specs.declared.send_no.SendNo.{SendNo}
use Rattle.ic_sender.specs.Sending.{Sending, Answer, emitting, count_next, rows_next, datagrams_next, flight_of, copy_of, copies, marked, named, run_with, freeing, hearing, datagrams_again}
use Rattle.ic_sender.specs.Calls.{Puts, Hears, queries_when, queries_next}
use Rattle.ic_sender.specs.Entries.{gave_of, came_of, IsTicking, tried_when, queried_when}
use Rattle.ic_sender.specs.Standing.{Stands}
use Rattle.ic_sender.proofs.Carrying.{row_again, query_has_no_rows}
use Rattle.ic_sender.proofs.Lists.{behind_above, map_filter, in_filter, find_there, length-map, length-behind}
use Rattle.ic_chunk.specs.Counts.{HasCounted}
use Rattle.ic_timed_sender.specs.Standing.{HasResent}
use Rattle.ic_timed_sender.proofs.Formed.{flight_is, copies_in}

-- ---- what an entry adds

-- so many rows were put, and with the entry more
abbrev pub EndsRows : ConnKey → (rows more : ℕ) → Entry → Type 0
EndsRows c rows more e = (payloads : List (List ℕ)) → HasCounted payloads rows → HasCounted (payloads ++ puts c e) more

-- packets of rows go out for the first time, and some again
pub record SendsRows (s after : Sending) (e : Entry) : Type 0 where
  pub new : ℕ
  pub again : ℕ
  pub emitted : length (flat_map (rows_in s.end.key) (emits e)) ≡ new + again
  pub sent : after.sent ≡ s.sent + new
  pub resent : (n : ℕ) → s.resent ≡ min n (2 ^ 128 - 1) → after.resent ≡ min (n + again) (2 ^ 128 - 1)

pub rows_after : (c : ConnKey) (rows more : ℕ) (h : List Entry) (e : Entry) → EndsRows c rows more e → HasCounted (chunks_put_of c h) rows → HasCounted (chunks_put_of c (h ++ e ∷ [])) more
rows_after c rows more h e ends old = subst (λ l. HasCounted l more) (sym (chunks_put_of-push c h e)) (ends (chunks_put_of c h) old)

pub resent_after : (s after : Sending) (h : List Entry) (e : Entry) → SendsRows s after e → HasResent s.end.key h s.sent s.resent → HasResent s.end.key (h ++ e ∷ []) after.sent after.resent
resent_after s after h e out old =
    let c = s.end.key in
    let more = ap length (rows_emitted_of-push c h e) ∙ length-append (rows_emitted_of c h) (flat_map (rows_in c) (emits e)) in
    record { again = old.again + out.again; emitted = omega (arith, more, old.emitted, out.emitted, out.sent); told = out.resent old.again old.told }

-- nothing is put
pub ends_none : (c : ConnKey) (rows : ℕ) (e : Entry) → puts c e ≡ [] → EndsRows c rows rows e
ends_none c rows e none payloads old = subst (λ l. HasCounted l rows) (sym (ap (λ l. payloads ++ l) none ∙ append-nil payloads)) old

-- no packet of rows goes out
pub sends_none : (s after : Sending) (e : Entry) → after.sent ≡ s.sent → after.resent ≡ s.resent → flat_map (rows_in s.end.key) (emits e) ≡ [] → SendsRows s after e
sends_none s after e sent resent none = record {
  new = 0;
  again = 0;
  emitted = ap length none;
  sent = omega (arith, sent);
  resent = λ n told. omega (arith, resent, told);
}

-- ---- one packet of rows each

all_ones : (c : ConnKey) (ds : List Datagram) → ((d : Datagram) → Contains ds d → length (rows_in c d) ≡ 1) → length (flat_map (rows_in c) ds) ≡ length ds
all_ones c [] one = refl
all_ones c (d ∷ ds) one =
    let first = one d (Contains-head d ds) in
    let rest = all_ones c ds (λ x at. one x (Contains-tail d ds x at)) in
    omega (arith, length-append (rows_in c d) (flat_map (rows_in c) ds), first, rest)

-- what is on its way
flight_one : (s : Sending) (held : List Item) (h : List Entry) → Stands s held h → (f : Flight) → Contains s.flights f → length (rows_in s.end.key f.datagram) ≡ 1
flight_one s held h stands f at = elim (cases_Bool s.stopped) [
  | inl off ↦ absurd (Contains-none f (subst (λ l. Contains l f) (stands.reflects.still off).flights at))
  | inr on ↦
      let r = flight_is s held h stands on f at in
      let small = stands.reflects.checked.greatest_packet in
      ap (λ (d : Datagram). length (rows_in s.end.key d)) (sym r.is)
      ∙ ap length (row_again s.end r.row stands.reflects.names (record { least = r.least; most = omega (arith, r.most, small); number = r.number }))
]

copies_ones : (s : Sending) (held : List Item) (h : List Entry) (fs : List Flight) (numbers : List ℕ) → Stands s held h → ((f : Flight) → Contains fs f → Contains s.flights f)
    → length (flat_map (rows_in s.end.key) (copies fs numbers)) ≡ length (copies fs numbers)
copies_ones s held h fs numbers stands among =
    all_ones s.end.key (copies fs numbers)
    (λ d at. let w = copies_in fs numbers d at in ap (λ (x : Datagram). length (rows_in s.end.key x)) (sym w.2) ∙ flight_one s held h stands w.0 (among w.0 w.1))

-- as many are on their way as were emitted and aren't acknowledged
flights_are : (s : Sending) (held : List Item) (h : List Entry) → Stands s held h → s.stopped ≡ false → (length s.flights ≡ s.sent - s.acked) × (s.acked ≤ s.sent)
flights_are s held h stands on =
    let m = (stands.reflects.runs on).mirrors in
    (sym (length-map (λ (f : Flight). f.seq) s.flights) ∙ ap length m.flights ∙ length-behind s.acked (s.sent - s.acked), m.up)

-- what goes out for the first time is on its way afterwards
next_ones : (m : Sending) (now : ℕ) (left : List Item) (h : List Entry) → Stands (emitting now m) left h → m.stopped ≡ false → length m.flights ≡ m.sent - m.acked → m.acked ≤ m.sent
    → length (flat_map (rows_in m.end.key) (datagrams_next m)) ≡ count_next m
next_ones m now left h stands on before up =
    let rows = rows_next m in
    let flights = map (flight_of m.end now) rows in
    let one = all_ones m.end.key (datagrams_next m)
    (λ d at. let w = map-Contains (row_datagram m.end) rows d at in
    ap (λ (x : Datagram). length (rows_in m.end.key x)) w.2
    ∙ flight_one (emitting now m) left h stands (flight_of m.end now w.0) (Contains-append_right m.flights flights (flight_of m.end now w.0) (Contains-map (flight_of m.end now) rows w.0 w.1))) in
    let after = flights_are (emitting now m) left h stands on in
    omega (arith, one, length-map (row_datagram m.end) rows, length-map (flight_of m.end now) rows, length-append m.flights flights, after.0, before, up)

-- ---- puts

-- what is filled is the same connection, from which nothing went out
pub record SameConn (s m : Sending) : Type 0 where
  pub end : m.end ≡ s.end
  pub conn : m.conn ≡ s.conn
  pub settings : m.settings ≡ s.settings
  pub stopped : m.stopped ≡ s.stopped
  pub sent : m.sent ≡ s.sent
  pub acked : m.acked ≡ s.acked
  pub flights : m.flights ≡ s.flights
  pub resent : m.resent ≡ s.resent

-- refused, it sends nothing
stays : (s after : Sending) (e : Entry) → after ≡ s → emits e ≡ [] → SendsRows s after e
stays s after e same none = sends_none s after e (ap (λ (x : Sending). x.sent) same) (ap (λ (x : Sending). x.resent) same) (ap (flat_map (rows_in s.end.key)) none)

pub puts_send : (s : Sending) (q : Queue) (now : ℕ) (needs : Type 0) (filled : Sending) (result : Result (List Datagram) SendNo) (after : Sending) (left : Queue) (old new : List Entry) (e : Entry) → SameConn s filled
    → Stands s q.held old → Stands after left.held new → e.reply ≡ gave_of result → Puts s q now needs filled result after left → SendsRows s after e
puts_send s q now needs filled result after left old new e same stands sends reply (Puts.Stopped off is one two) = stays s after e one (ap datagrams_of reply ∙ ap (λ r. datagrams_of (gave_of r)) is)
puts_send s q now needs filled result after left old new e same stands sends reply (Puts.Full on need le is one two) = stays s after e one (ap datagrams_of reply ∙ ap (λ r. datagrams_of (gave_of r)) is)
puts_send s q now needs filled result after left old new e same stands sends reply (Puts.TooLong on need lt le is one two) = stays s after e one (ap datagrams_of reply ∙ ap (λ r. datagrams_of (gave_of r)) is)
puts_send s q now needs filled result after left old new e same stands sends reply (Puts.NoMemory is one two) = stays s after e one (ap datagrams_of reply ∙ ap (λ r. datagrams_of (gave_of r)) is)
puts_send s q now needs filled result after left old new e same stands sends reply (Puts.Given on free is one two) =
    let w = flights_are s q.held old stands on in
    let flights : length filled.flights ≡ filled.sent - filled.acked = omega (arith, ap length same.flights, same.sent, same.acked, w.0) in
    let out = next_ones filled now left.held new (subst (λ (x : Sending). Stands x left.held new) one sends) (same.stopped ∙ on) flights (omega (arith, same.sent, same.acked, w.1)) in
    let are : emits e ≡ datagrams_next filled = ap datagrams_of reply ∙ ap (λ r. datagrams_of (gave_of r)) is in
    let all = ap (λ l. length (flat_map (rows_in s.end.key) l)) are ∙ ap (λ (x : ConnEnd). length (flat_map (rows_in x.key) (datagrams_next filled))) (sym same.end) in
    let sent = ap (λ (x : Sending). x.sent) one in
    let resent = ap (λ (x : Sending). x.resent) one in
    record {
      new = count_next filled;
      again = 0;
      emitted = omega (arith, all, out);
      sent = omega (arith, sent, same.sent);
      resent = λ n told. omega (arith, resent, same.resent, told);
    }

-- ---- answers

-- what is freed isn't on its way
freed_are : (s : Sending) (held : List Item) (h : List Entry) (a : Answer) (now : ℕ) → Stands s held h → s.stopped ≡ false → run_with a s ≤ s.sent → length (hearing now a s).flights ≡ s.sent - run_with a s
freed_are s held h a now stands on within =
    let run = run_with a s in
    let left = filter (λ (f : Flight). nat_lt run f.seq) s.flights in
    let m = (stands.reflects.runs on).mirrors in
    let low : s.acked ≤ run = omega arith in
    let numbers = map_filter (nat_lt run) (λ (f : Flight). f.seq) s.flights ∙ ap (filter (nat_lt run)) m.flights ∙ behind_above run s.acked (s.sent - s.acked) low (omega (arith, within, m.up)) in
    let count = ap length numbers ∙ length-behind run (s.acked + (s.sent - s.acked) - run) in
    omega (arith, length-map (λ f. marked a.lists (named a.names f)) left, length-map (λ (f : Flight). f.seq) left, count, m.up)

pub hears_send : (s : Sending) (q : Queue) (now : ℕ) (stray : Type 0) (a : Answer) (result : Result (List Datagram) SendNo) (after : Sending) (left : Queue) (old new : List Entry) (e : Entry) → ((stray → ⊥) → a.run ≤ s.sent)
    → Stands s q.held old → Stands after left.held new → e.reply ≡ came_of result → Hears s q now stray a result after left → SendsRows s after e
hears_send s q now stray a result after left old new e within stands sends reply (Hears.Unheard off is one two) = stays s after e one (ap datagrams_of reply ∙ ap (λ r. datagrams_of (came_of r)) is)
hears_send s q now stray a result after left old new e within stands sends reply (Hears.Strayed on is_stray is one two) = stays s after e one (ap datagrams_of reply ∙ ap (λ r. datagrams_of (came_of r)) is)
hears_send s q now stray a result after left old new e within stands sends reply (Hears.HeardWithout is one two) = stays s after e one (ap datagrams_of reply ∙ ap (λ r. datagrams_of (came_of r)) is)
hears_send s q now stray a result after left old new e within stands sends reply (Hears.Heard on fine is one two) =
    let c = s.end.key in
    let m = hearing now a s in
    let low = within fine in
    let w = flights_are s q.held old stands on in
    let run : run_with a s ≤ s.sent = omega (arith, low, w.1) in
    let again = datagrams_again now a s in
    let next = datagrams_next m in
    let out = next_ones m now left.held new (subst (λ (x : Sending). Stands x left.held new) one sends) on (freed_are s q.held old a now stands on run) run in
    let copied = copies_ones s q.held old (freeing now a s).flights a.lists stands (λ f there. (in_filter (λ (g : Flight). nat_lt (run_with a s) g.seq) s.flights f there).0) in
    let are : emits e ≡ again ++ next = ap datagrams_of reply ∙ ap (λ r. datagrams_of (came_of r)) is in
    let all = ap (λ l. length (flat_map (rows_in c) l)) are ∙ ap length (flat_map-append (rows_in c) again next) ∙ length-append (flat_map (rows_in c) again) (flat_map (rows_in c) next) in
    let sent = ap (λ (x : Sending). x.sent) one in
    let resent = ap (λ (x : Sending). x.resent) one in
    record {
      new = count_next m;
      again = length again;
      emitted = omega (arith, all, copied, out);
      sent = omega (arith, sent);
      resent = λ n told. omega (arith, resent, told);
    }

-- ---- ticks

-- each of these numbers is on its way, so each is copied
all_copied : (fs : List Flight) (numbers : List ℕ) → ((n : ℕ) → Contains numbers n → Contains (map (λ (f : Flight). f.seq) fs) n) → length (copies fs numbers) ≡ length numbers
all_copied fs [] there = refl
all_copied fs (n ∷ numbers) there =
    let f = find_there (λ (g : Flight). g.seq) fs n (there n (Contains-head n numbers)) in
    let rest = all_copied fs numbers (λ k at. there k (Contains-tail n numbers k at)) in
    ap (λ o. length (copy_of o ++ copies fs numbers)) f.1 ∙ omega (arith, rest)

-- a status query is no packet of rows
query_has_none : (s : Sending) (held : List Item) (h : List Entry) (now : ℕ) → Stands s held h → flat_map (rows_in s.end.key) (queries_next now s) ≡ []
query_has_none s held h now stands = elim (cases_Bool s.stopped) [
  | inl off ↦ ap (λ o. flat_map (rows_in s.end.key) (queries_when s (query_due now o))) (stands.reflects.still off).query
  | inr on ↦ by (query_due now s.asked) on
]
  where
    by : (b : Bool) → s.stopped ≡ false → flat_map (rows_in s.end.key) (queries_when s b) ≡ []
    by false on = refl
    by true on =
        let m = (stands.reflects.runs on).mirrors in
        let within = stands.reflects.sent.within in
        ap (λ l. l ++ []) (query_has_no_rows s.end s.sent stands.reflects.names (omega (arith, within, m.sealed, m.small)))

queried_counts : (s : Sending) (now : ℕ) (b : Bool) → ((queried_when b now s).sent ≡ s.sent) × ((queried_when b now s).resent ≡ s.resent)
queried_counts s now true = (refl, refl)
queried_counts s now false = (refl, refl)

tried_counts : (s : Sending) (numbers : List ℕ) → ((tried_when numbers s).sent ≡ s.sent) × ((n : ℕ) → s.resent ≡ min n (2 ^ 128 - 1) → (tried_when numbers s).resent ≡ min (n + length numbers) (2 ^ 128 - 1))
tried_counts s [] = (refl, λ n told. omega (arith, told))
tried_counts s (k ∷ numbers) = (refl, λ n told. omega (arith, told))

pub ticks_send : (s : Sending) (held : List Item) (h : List Entry) (now next : ℕ) (numbers : List ℕ) (b : Bool) (e : Entry) → Stands s held h → ((n : ℕ) → Contains numbers n → Contains (map (λ (f : Flight). f.seq) s.flights) n)
    → IsTicking s.end.key (copies s.flights numbers ++ queries_next now s) e → SendsRows s (queried_when b next (tried_when numbers s)) e
ticks_send s held h now next numbers b e stands there is =
    let c = s.end.key in
    let again = copies s.flights numbers in
    let query = queries_next now s in
    let all = ap (λ (r : HubReply). length (flat_map (rows_in c) (datagrams_of r))) is.reply ∙ ap length is.among.rows ∙ ap length (flat_map-append (rows_in c) again query)
    ∙ length-append (flat_map (rows_in c) again) (flat_map (rows_in c) query) in
    let none = ap length (query_has_none s held h now stands) in
    let one = tried_counts s numbers in
    let two = queried_counts (tried_when numbers s) next b in
    record {
      new = 0;
      again = length numbers;
      emitted = omega (arith, all, none, copies_ones s held h s.flights numbers stands (λ f at. at), all_copied s.flights numbers there);
      sent = omega (arith, two.0, one.0);
      resent = λ n told. two.1 ∙ one.1 n told;
    }
