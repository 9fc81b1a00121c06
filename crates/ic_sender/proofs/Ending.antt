-- The end of every event, as the code comes to it by a plan.
use Rattle.std.proofs.Common.{◌≡◌, ℕ, ◌+◌, ◌-◌, ◌≤◌, List, [], ◌∷◌, ◌++◌, length, map, Bool, true, false, cond, ◌&&◌, ◌||◌, ◌==◌, inl, inr, Option, Some, None, refl, ap, sym, ◌∙◌, subst, arith}
use Rattle.std.specs.Prelude.{nat_lt, nat_le, filter, find}
use Rattle.std.specs.List.{Contains, list_any}
use Rattle.std.proofs.lemmas.Bool.{cases_lt, eqb-true}
use Rattle.std.specs.Option.{option_map}
use Rattle.ic_base.specs.declared.keys.ConnEnd.{ConnEnd}
use Rattle.ic_base.specs.declared.datagram.Datagram.{Datagram}
use Rattle.ic_chunk.specs.Chunks.{spelled, end_of_stream}
use Rattle.ic_chunk.proofs.Lists.{all_both}
use Rattle.ic_sendring.specs.Ring.{Ring, Kept, next_packet, behind}
use Rattle.ic_law.proofs.Lists.{map-append, Contains-head, Contains-tail}
use Rattle.ic_expire.specs.declared.item.Item.{Item}
use Rattle.ic_expire.specs.Queue.{Queue, IsHeld}
use Rattle.ic_window.specs.State.{WindowState}
use Rattle.ic_header.specs.Packets.{RowPacket}
use Rattle.ic_law.specs.Timers as law
use Rattle.ic_law.specs.Timing as timing
use Rattle.ic_sender.specs.declared.flight.Flight.{Flight}
use Rattle.ic_sender.specs.declared.numbers.Numbers.{Numbers}
use Rattle.ic_sender.specs.declared.planning.Plan.{Plan}
use Rattle.ic_sender.specs.Sending.{row_of, kept_at, is_among, is_it, named, marked, tried, Sending, count_next, rows_next, rows_kept, flight_of, waiting}
use Rattle.ic_sender.specs.Calls.{Gives, IsNow, is_unanswered}
use Rattle.ic_sender.specs.Views.{asked_of, rows_in, row_in, Plans, count_of, MayWait, FewTries, AsksFew}
use Rattle.ic_sender.proofs.Lists.{map_map, map_filter, joined_same, in_behind, find_filter, lt_yes, same_number}
use Rattle.ic_sender.proofs.Ticking.{none_found, not_any}
use Rattle.ic_sender.proofs.Emitting.{waits_soon, waits_two}
use Rattle.ic_sender.proofs.MayWaiting.{going_may}

-- a connection's numbers
abbrev pub numbers_of : Sending → Numbers
numbers_of m = record { sealed = m.sealed; sent = m.sent; acked = m.acked; consumed = m.consumed }

abbrev pub PlansFor : Sending → ℕ → Plan → Type 0
PlansFor m now p = Plans m.end m.kept (numbers_of m) m.window m.settings.receive_depth m.asked now p

ended : Sending → ℕ → List Flight → Option law.Asked → Sending
ended m sent flights asked = record m { sent = sent; flights = flights; asked = asked }

-- a plan that is carried out is the end of the event
pub ends : (m : Sending) (p : Plan) (held : List Item) (now : ℕ) (before ds : List Datagram) (after : Sending) (q left : Queue) → PlansFor m now p → ds ≡ before ++ map (λ (f : Flight). f.datagram) p.flights.items
    → after ≡ record m { sent = m.sent + p.count; flights = m.flights ++ p.flights.items; asked = option_map asked_of p.asked }
    → left ≡ record q { held = waiting m.conn p.due (map (λ (f : Flight). f.seq) p.flights.items) held } → Gives m held now before ds after q left
unfolding ended
ends m p held now before ds after q left plans sent state waits =
    let rows = rows_next m in
    let seqs : map (λ (f : Flight). f.seq) p.flights.items ≡ map (λ (x : RowPacket). x.seq) rows = ap (map (λ (f : Flight). f.seq)) plans.flights ∙ map_map (λ (f : Flight). f.seq) (flight_of m.end now) rows in
    record {
      datagrams = sent ∙ ap (λ l. before ++ map (λ (f : Flight). f.datagram) l) plans.flights ∙ ap (λ l. before ++ l) (map_map (λ (f : Flight). f.datagram) (flight_of m.end now) rows);
      state = state ∙ ap (λ n. ended m (m.sent + n) (m.flights ++ p.flights.items) (option_map asked_of p.asked)) plans.count
          ∙ ap (λ l. ended m (m.sent + count_next m) (m.flights ++ l) (option_map asked_of p.asked)) plans.flights
          ∙ ap (λ a. ended m (m.sent + count_next m) (m.flights ++ map (flight_of m.end now) rows) a) plans.asks;
      waits = waits ∙ ap (λ n. record q { held = waiting m.conn n (map (λ (f : Flight). f.seq) p.flights.items) held }) plans.due
          ∙ ap (λ l. record q { held = waiting m.conn (now + law.wait_in m.window 0) l held }) seqs;
    }

-- what it emits may wait
pub plan_may : (m : Sending) (p : Plan) (now : ℕ) (q : Queue) → PlansFor m now p → ((n : ℕ) → IsHeld m.conn n q.held → n ≤ m.sent) → length q.held + (m.sealed - m.sent) ≤ q.room
    → MayWait m.conn (map (λ (f : Flight). f.seq) p.flights.items) q
plan_may m p now q plans alone room = going_may m.end now m.conn m.kept m.sent (count_next m) q p.flights.items plans.flights alone (omega (arith, room))

-- and the queue takes its due
pub due_within : (w : WindowState) (now due : ℕ) (q : Queue) → IsNow now q → due ≡ now + law.wait_in w 0 → (q.asked ≤ due) × (due ≤ q.asked + 64)
due_within w now due q is same = let soon = waits_soon w 0 now in (omega (arith, is.upto, same, soon.later, least), omega (arith, is.from, same, soon.near))
  where
    least : 2 ≤ law.wait_in w 0
    least = waits_two w

-- ---- tries

pub few_going : (retries : ℕ) (end : ConnEnd) (now : ℕ) (rows : List RowPacket) → FewTries retries (map (flight_of end now) rows)
few_going retries end now [] = tt
few_going retries end now (p ∷ rows) = (omega arith, few_going retries end now rows)

pub few_joined : (retries : ℕ) (m : Sending) (p : Plan) (now : ℕ) (before after : List Flight) → PlansFor m now p → FewTries retries before → after ≡ before ++ p.flights.items → FewTries retries after
few_joined retries m p now before after plans few is =
    subst (FewTries retries) (sym is) (all_both (λ (f : Flight). f.tries ≤ retries) before p.flights.items few (subst (FewTries retries) (sym plans.flights) (few_going retries m.end now (rows_next m))))

asks_by : (retries now : ℕ) (w : WindowState) (b d : Bool) (o : Option law.Asked) → AsksFew retries o → AsksFew retries (cond b None (cond d (timing.standing now w o) o))
asks_by retries now w true d o few = tt
asks_by retries now w false true None few = omega arith
asks_by retries now w false true (Some a) few = few
asks_by retries now w false false o few = few

pub asks_few : (retries : ℕ) (m : Sending) (p : Plan) (now : ℕ) → PlansFor m now p → AsksFew retries m.asked → AsksFew retries (option_map asked_of p.asked)
asks_few retries m p now plans few =
    let sent = m.sent + count_next m in
    subst (AsksFew retries) (sym plans.asks) (asks_by retries now m.window (nat_lt 0 (m.settings.receive_depth - (sent - m.consumed))) (nat_le sent m.acked && nat_lt sent m.sealed) m.asked few)

pub length-append : (xs ys : List ℕ) → length (xs ++ ys) ≡ length xs + length ys
length-append [] ys = omega arith
length-append (x ∷ xs) ys = let i = length-append xs ys in omega (arith, i)

pub end_length : length (spelled end_of_stream) ≡ 4
unfolding spelled
end_length = refl

-- a packet that is sealed is a packet of rows more
pub row_sealed : (ring : Ring) (payload : List ℕ) (last : Bool) (sealed : ℕ) → ring.sealed ≡ sealed
    → rows_in (record ring { sealed = ring.sealed + 1; kept = ring.kept ++ next_packet ring payload last ∷ [] }) ≡ rows_in ring ++ record { seq = sealed + 1; payload = payload; last = last } ∷ []
row_sealed ring payload last sealed same =
    map-append (λ (k : Kept). row_in k.packet) ring.kept (next_packet ring payload last ∷ []) ∙ ap (λ n. rows_in ring ++ record { seq = n + 1; payload = payload; last = last } ∷ []) same

-- ---- what an answer leaves

rows_freed : (kept : List RowPacket) (run sent k : ℕ) → run ≤ sent → rows_kept (filter (λ (x : RowPacket). nat_lt run x.seq) kept) (timing.numbers_behind sent k) ≡ rows_kept kept (timing.numbers_behind sent k)
rows_freed kept run sent k le =
    joined_same (λ n. row_of (kept_at (filter (λ (x : RowPacket). nat_lt run x.seq) kept) n)) (λ n. row_of (kept_at kept n)) (timing.numbers_behind sent k)
    (λ n at. let w = in_behind sent k n at in ap row_of (find_filter (λ (x : RowPacket). x.seq) (nat_lt run) kept n (lt_yes run n (omega (arith, w.0, le)))))

-- what is freed doesn't go out
pub plans_freed : (end : ConnEnd) (kept : List RowPacket) (n : Numbers) (w : WindowState) (depth : ℕ) (o : Option law.Asked) (now : ℕ) (p : Plan) (run : ℕ) → run ≤ n.sent → Plans end kept n w depth o now p
    → Plans end (filter (λ (x : RowPacket). nat_lt run x.seq) kept) n w depth o now p
plans_freed end kept n w depth o now p run le plans = record {
  count = plans.count;
  flights = plans.flights ∙ ap (map (flight_of end now)) (sym (rows_freed kept run n.sent (count_of n w depth) le));
  asks = plans.asks;
  due = plans.due;
}

pub ring_freed : (ring : Ring) (run : ℕ) → rows_in (record ring { kept = behind run ring.kept }) ≡ filter (λ (x : RowPacket). nat_lt run x.seq) (rows_in ring)
ring_freed ring run = map_filter (λ (x : RowPacket). nat_lt run x.seq) (λ (k : Kept). row_in k.packet) ring.kept

pub few_heard : (retries : ℕ) (names : Option ℕ) (lists : List ℕ) (p : Flight → Bool) (fs : List Flight) → FewTries retries fs → FewTries retries (map (λ f. marked lists (named names f)) (filter p fs))
few_heard retries names lists p [] few = tt
few_heard retries names lists p (f ∷ fs) few = by (p f) (few_heard retries names lists p fs few.1)
  where
    one : (b d : Bool) → (cond b (record (cond d (record f { tries = 0 }) f) { resent = true }) (cond d (record f { tries = 0 }) f)).tries ≤ retries
    one true true = omega arith
    one true false = few.0
    one false true = omega arith
    one false false = few.0

    by : (b : Bool) → FewTries retries (map (λ f. marked lists (named names f)) (filter p fs)) → FewTries retries (map (λ f. marked lists (named names f)) (cond b (f ∷ filter p fs) (filter p fs)))
    by true rest = (one (is_among lists (named names f).seq) (is_it names f.seq), rest)
    by false rest = rest

pub later_few : (retries now : ℕ) (w : WindowState) (o : Option law.Asked) → AsksFew retries (option_map (law.asked_later now w) o)
later_few retries now w None = tt
later_few retries now w (Some a) = omega arith

-- ---- what a tick leaves

any_there : (numbers : List ℕ) (n : ℕ) → is_among numbers n ≡ true → Contains numbers n
any_there [] n h = let bad : false ≡ true = h in cc
any_there (m ∷ numbers) n h = by (m == n) refl h (any_there numbers n)
  where
    by : (b : Bool) → (m == n) ≡ b → (b || is_among numbers n) ≡ true → (is_among numbers n ≡ true → Contains numbers n) → Contains (m ∷ numbers) n
    by true e h rest = subst (Contains (m ∷ numbers)) (eqb-true m n e) (Contains-head m numbers)
    by false e h rest = Contains-tail m numbers n (rest h)

-- one more try of those that aren't spent
pub few_tried : (retries : ℕ) (numbers : List ℕ) (flights : List Flight) → find (λ n. list_any (λ (f : Flight). (f.seq == n) && (f.tries == retries)) flights) numbers ≡ None → FewTries retries flights
    → FewTries retries (map (tried numbers) flights)
few_tried retries numbers flights unspent few = go flights (λ f at. at) few
  where
    test : ℕ → Bool
    test n = list_any (λ (f : Flight). (f.seq == n) && (f.tries == retries)) flights

    one : (f : Flight) → Contains flights f → f.tries ≤ retries → (b : Bool) → is_among numbers f.seq ≡ b → (cond b (record f { tries = f.tries + 1; resent = true }) f).tries ≤ retries
    one f at le false e = le
    one f at le true e =
        let there = any_there numbers f.seq e in
        let none : list_any (λ (g : Flight). (g.seq == f.seq) && (g.tries == retries)) flights ≡ false =
        none_found (λ n. list_any (λ (g : Flight). (g.seq == n) && (g.tries == retries)) flights) numbers f.seq unspent there in
        let fails : ((f.seq == f.seq) && (f.tries == retries)) ≡ false = not_any (λ (g : Flight). (g.seq == f.seq) && (g.tries == retries)) flights f none at in
        let other : (f.tries == retries) ≡ false = sym (ap (λ b. b && (f.tries == retries)) (same_number f.seq)) ∙ fails in
        elim (cases_lt f.tries retries) [
          | inl lt ↦ omega (arith, lt)
          | inr ge ↦
              let same : f.tries ≡ retries = omega (arith, le, ge) in
              absurd (let bad : true ≡ false = sym (same_number retries) ∙ ap (λ n. n == retries) (sym same) ∙ other in cc)
        ]

    go : (gs : List Flight) → ((f : Flight) → Contains gs f → Contains flights f) → FewTries retries gs → FewTries retries (map (tried numbers) gs)
    go [] within few = tt
    go (g ∷ gs) within few = (one g (within g (Contains-head g gs)) few.0 (is_among numbers g.seq) refl, go gs (λ f at. within f (Contains-tail g gs f at)) few.1)

-- and of a query that isn't
pub asks_again : (retries now : ℕ) (w : WindowState) (o : Option law.Asked) → AsksFew retries o → is_unanswered retries now o ≡ false → AsksFew retries (option_map (law.asked_again now w) o)
asks_again retries now w None few answered = tt
asks_again retries now w (Some a) few answered = by (nat_le a.due now) answered
  where
    by : (b : Bool) → (b && (a.tries == retries)) ≡ false → (cond b (record { due = now + law.wait_in w (a.tries + 1); tries = a.tries + 1 }) a).tries ≤ retries
    by false h = few
    by true h = elim (cases_lt a.tries retries) [
      | inl lt ↦ omega (arith, lt)
      | inr ge ↦
          let same : a.tries ≡ retries = omega (arith, few, ge) in
          absurd (let bad : true ≡ false = sym (same_number retries) ∙ ap (λ n. n == retries) (sym same) ∙ h in cc)
    ]
