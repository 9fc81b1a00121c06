-- A connection that heard an answer stands for the entry.
use Rattle.std.proofs.Common.{◌≡◌, ℕ, ◌+◌, ◌-◌, ◌<◌, ◌≤◌, max, List, [], ◌∷◌, length, map, Bool, true, false, cond, ◌&&◌, ◌||◌, ◌==◌, Option, Some, None, refl, ap, sym, ◌∙◌, subst, arith, inl, inr}
use Rattle.std.specs.Prelude.{nat_lt, nat_le, filter}
use Rattle.std.specs.List.{Contains, list_any}
use Rattle.std.specs.Option.{option_map}
use Rattle.std.proofs.lemmas.Bool.{cases_Bool, leb-true, leb-false, eqb-true}
use Rattle.ic_base.specs.declared.keys.ConnEnd.{ConnEnd}
use Rattle.ic_base.specs.declared.keys.ConnKey.{ConnKey}
use Rattle.ic_base.specs.declared.datagram.Datagram.{Datagram}
use Rattle.ic_base.specs.Keys.{key_eq}
use Rattle.ic_base.proofs.SameKeys.{key_eq-same}
use Rattle.ic_expire.specs.declared.item.Item.{Item}
use Rattle.ic_expire.specs.Items.{is_of, is_upto}
use Rattle.ic_expire.specs.Queue.{without}
use Rattle.ic_expire.proofs.Holding.{rest_holds}
use Rattle.ic_window.specs.State.{WindowState, grown}
use Rattle.ic_law.specs.declared.history.HubAsk.TheVariants.{Arrive}
use Rattle.ic_law.specs.declared.history.HubReply.TheVariants.{Came}
use Rattle.ic_law.specs.declared.history.Arrived.TheVariants.{Handled}
use Rattle.ic_law.specs.declared.history.Entry.{Entry}
use Rattle.ic_header.specs.Packets.{Packet, packet_of, key_of, goes_forth}
use Rattle.ic_law.specs.History.{number_of}
use Rattle.ic_law.specs.Hearing.{hears, answer_read, is_stop, run_heard, run_told, consumed_told}
use Rattle.ic_law.specs.Filling.{Sealed}
use Rattle.ic_law.specs.Clock.{clock_of}
use Rattle.ic_law.specs.Timers.{Timer, Asked, Timing, timing_heard, names_its_number, listed_by, asked_later}
use Rattle.ic_law.specs.Timing.{numbers_behind}
use Rattle.ic_law.specs.Armed.{IsSoon}
use Rattle.ic_law.specs.Timers.{named as named_in, marked as marked_in, is_among as stands_among, sample_by as sample_in, lost_where, timer_of}
use Rattle.ic_law.proofs.Lists.{Contains-none, Contains-map, head_or_tail}
use Rattle.ic_sender.specs.declared.flight.Flight.{Flight}
use Rattle.ic_sender.specs.Sending.{Sending, Answer, row_of, run_with, freed_window, is_it, is_among, named, marked, copies, lost_with, hearing, flight_at, sample_by}
use Rattle.ic_sender.specs.Standing.{Waits, Alike, item_of, Mirrors}
use Rattle.ic_sender.proofs.Lists.{behind_above, lt_yes, lt_of, map_filter, map_map, map_same, in_filter, filter_has, find_filter, same_number}
use Rattle.ic_sender.proofs.Pairs.{alike_in, alike_filter, alike_map, lost_same, sample_same, HasLeast, least_grown, least_lost_with, least_sampled}
use Rattle.ic_sender.proofs.Emitting.{waits_soon}

-- what a packet tells, if it is an answer and no stop
pub record IsAnswerOf (p : Packet) (a : Answer) : Type 0 where
  pub back : goes_forth p.head.flags ≡ false
  pub goes_on : is_stop p ≡ false
  pub run : run_told p ≡ a.run
  pub consumed : consumed_told p ≡ a.consumed
  pub names : (n : ℕ) → (names_its_number p.head.flags && (n == p.head.seq)) ≡ is_it a.names n
  pub lists : listed_by p.head.flags p ≡ a.lists

-- ---- one more answer

pub answer_is : (c : ConnKey) (d : Datagram) (p : Packet) (ds : List Datagram) → packet_of d ≡ Some p → key_of p.head ≡ c → goes_forth p.head.flags ≡ false → hears c (record { ask = Arrive d; reply = Came Handled ds }) ≡ p ∷ []
answer_is c d p ds reads key back =
    ap (answer_read c) reads ∙ ap (λ b. cond b [] (cond (key_eq (key_of p.head) c) (p ∷ []) [])) back ∙ ap (λ k. cond (key_eq k c) (p ∷ []) []) key ∙ ap (λ b. cond b (p ∷ []) []) (key_eq-same c)

-- ---- the flights and their timers

named_seq : (names : Option ℕ) (f : Flight) → (named names f).seq ≡ f.seq
named_seq names f = by (is_it names f.seq)
  where
    by : (b : Bool) → (cond b (record f { tries = 0 }) f).seq ≡ f.seq
    by true = refl
    by false = refl

marked_seq : (numbers : List ℕ) (f : Flight) → (marked numbers f).seq ≡ f.seq
marked_seq numbers f = by (is_among numbers f.seq)
  where
    by : (b : Bool) → (cond b (record f { resent = true }) f).seq ≡ f.seq
    by true = refl
    by false = refl

-- naming and marking a pair keeps it a pair
named_pair : (end : ConnEnd) (packets : List Sealed) (conn : ℕ) (held : List Item) (clock : ℕ) (p : Packet) (a : Answer) (f : Flight) (t : Timer) → IsAnswerOf p a → Waits end packets conn held clock f t
    → Waits end packets conn held clock (named a.names f) (named_in p t)
named_pair end packets conn held clock p a f t is w =
    let same : (names_its_number p.head.flags && (t.seq == p.head.seq)) ≡ is_it a.names f.seq = ap (λ n. names_its_number p.head.flags && (n == p.head.seq)) w.seq ∙ is.names f.seq in
    subst (λ b. Waits end packets conn held clock (named a.names f) (cond b (record t { tries = 0 }) t)) (sym same) (by (is_it a.names f.seq))
  where
    by : (b : Bool) → Waits end packets conn held clock (cond b (record f { tries = 0 }) f) (cond b (record t { tries = 0 }) t)
    by true = record { seq = w.seq; tries = refl; since = w.since; resent = w.resent; waits = w.waits; soon = w.soon; same = w.same }
    by false = w

marked_pair : (end : ConnEnd) (packets : List Sealed) (conn : ℕ) (held : List Item) (clock : ℕ) (numbers listed : List ℕ) (f : Flight) (t : Timer) → is_among numbers f.seq ≡ list_any (λ n. n == t.seq) listed
    → Waits end packets conn held clock f t → Waits end packets conn held clock (marked numbers f) (marked_in listed t)
marked_pair end packets conn held clock numbers listed f t same w =
    subst (λ b. Waits end packets conn held clock (marked numbers f) (cond b (record t { resent = true }) t)) same (by (is_among numbers f.seq))
  where
    by : (b : Bool) → Waits end packets conn held clock (cond b (record f { resent = true }) f) (cond b (record t { resent = true }) t)
    by true = record { seq = w.seq; tries = w.tries; since = w.since; resent = refl; waits = w.waits; soon = w.soon; same = w.same }
    by false = w

-- a number of the timers is listed where it is among those that are, the others left out
listed_same : (ts : List Timer) (numbers : List ℕ) (n : ℕ) → stands_among ts n ≡ true → is_among numbers n ≡ list_any (λ m. m == n) (filter (stands_among ts) numbers)
listed_same ts [] n there = refl
listed_same ts (m ∷ numbers) n there = by (stands_among ts m) refl (listed_same ts numbers n there)
  where
    by : (b : Bool) → stands_among ts m ≡ b → is_among numbers n ≡ list_any (λ k. k == n) (filter (stands_among ts) numbers)
        → is_among (m ∷ numbers) n ≡ list_any (λ k. k == n) (cond b (m ∷ filter (stands_among ts) numbers) (filter (stands_among ts) numbers))
    by true e rest = ap (λ b. (m == n) || b) rest
    by false e rest = other (m == n) refl e ∙ rest
      where
        other : (b : Bool) → (m == n) ≡ b → stands_among ts m ≡ false → (b || is_among numbers n) ≡ is_among numbers n
        other false same e = refl
        other true same e = absurd (let bad : true ≡ false = sym there ∙ ap (stands_among ts) (sym (eqb-true m n same)) ∙ e in cc)

pub list_any-has : {A : Type 0} (p : A → Bool) (xs : List A) (x : A) → Contains xs x → p x ≡ true → list_any p xs ≡ true
list_any-has p [] x at pass = absurd (Contains-none x at)
list_any-has p (y ∷ xs) x at pass =
    elim (head_or_tail y xs x at) [
      | inl same ↦ ap (λ b. b || list_any p xs) (ap p same ∙ pass)
      | inr later ↦ ap (λ b. p y || b) (list_any-has p xs x later pass) ∙ or_true (p y)
    ]
  where
    or_true : (b : Bool) → (b || true) ≡ true
    or_true true = refl
    or_true false = refl

-- the timer of a pair is among the timers
pub timer_among : (ts : List Timer) (t : Timer) → Contains ts t → stands_among ts t.seq ≡ true
timer_among ts t at = list_any-has (λ (x : Timer). x.seq == t.seq) ts t at (same_number t.seq)

-- ---- what is freed, named and listed

-- what an answer makes of a timing, with the numbers before and after it
pub plain : (run before clock : ℕ) → Timing → Packet → List ℕ → Timing
plain run before clock t p lists =
    let w = cond ((run - before) == 0) t.window (sample_in clock (timer_of run t.timers) (grown (run - before) t.window)) in
    let listed = filter (stands_among (filter (λ (x : Timer). nat_lt run x.seq) t.timers)) lists in
    record {
      window = lost_where listed w;
      timers = map (λ x. marked_in listed (named_in p x)) (filter (λ (x : Timer). nat_lt run x.seq) t.timers);
      asked = option_map (asked_later clock w) t.asked;
    }

pub heard_is : (c : ConnKey) (h now : List Entry) (t : Timing) (p : Packet) → timing_heard c h now t p ≡ plain (run_heard c now) (run_heard c h) (clock_of now) t p (listed_by p.head.flags p)
unfolding plain
heard_is c h now t p = refl

window_same : (s : Sending) (held : List Item) (packets : List Sealed) (t : Timing) (clock run : ℕ) → Mirrors s held packets t clock
    → cond ((run - s.acked) == 0) t.window (sample_in clock (timer_of run t.timers) (grown (run - s.acked) t.window)) ≡ freed_window clock run s
window_same s held packets t clock run old =
    ap (λ w. cond ((run - s.acked) == 0) w (sample_in clock (timer_of run t.timers) (grown (run - s.acked) w))) old.window
    ∙ ap (λ w. cond ((run - s.acked) == 0) s.window w) (sample_same s.end packets s.conn held clock s.flights t.timers run (grown (run - s.acked) s.window) old.timers)

window_least : (s : Sending) (clock run : ℕ) → HasLeast s.window → HasLeast (freed_window clock run s)
window_least s clock run least = by ((run - s.acked) == 0)
  where
    by : (b : Bool) → HasLeast (cond b s.window (sample_by clock (flight_at s.flights run) (grown (run - s.acked) s.window)))
    by true = least
    by false = least_sampled clock (flight_at s.flights run) (grown (run - s.acked) s.window) (least_grown (run - s.acked) s.window least)

later_soon : (clock : ℕ) (w : WindowState) (o : Option Asked) (x : Asked) → option_map (asked_later clock w) o ≡ Some x → IsSoon clock x.due
later_soon clock w None x h = let bad : None ≡ Some x = h in cc
later_soon clock w (Some a) x h = let same : asked_later clock w a ≡ x = cc in subst (λ (y : Asked). IsSoon clock y.due) same (waits_soon w 0 clock)

and_false : (b : Bool) → (b && false) ≡ false
and_false true = refl
and_false false = refl

not_le : (a b : ℕ) → a < b → nat_le b a ≡ false
not_le a b lt = elim (cases_Bool (nat_le b a)) [ inl t ↦ absurd (omega (arith, lt, leb-true b a t)) | inr f ↦ f ]

-- what is freed no longer waits, what isn't does
still_waits : (conn run : ℕ) (held : List Item) (t : Timer) → run < t.seq → Contains held (item_of conn t) → Contains (without (is_upto conn run) held) (item_of conn t)
still_waits conn run held t lt at = (rest_holds held (is_upto conn run) (item_of conn t)).1 (at, ap (λ b. is_of conn (item_of conn t) && b) (not_le run t.seq lt) ∙ and_false (is_of conn (item_of conn t)))

pub kept_pairs : (s : Sending) (held : List Item) (packets : List Sealed) (t : Timing) (clock run : ℕ) → Mirrors s held packets t clock
    → Alike (Waits s.end packets s.conn held clock) (filter (λ (f : Flight). nat_lt run f.seq) s.flights) (filter (λ (x : Timer). nat_lt run x.seq) t.timers)
kept_pairs s held packets t clock run old =
    alike_filter (Waits s.end packets s.conn held clock) (λ (f : Flight). nat_lt run f.seq) (λ (x : Timer). nat_lt run x.seq) s.flights t.timers (λ f x w. ap (nat_lt run) (sym w.seq)) old.timers

heard_pairs : (s : Sending) (held : List Item) (packets : List Sealed) (t : Timing) (clock run : ℕ) (p : Packet) (a : Answer) → IsAnswerOf p a → Mirrors s held packets t clock
    → Alike (Waits s.end packets s.conn (without (is_upto s.conn run) held) clock) (map (λ f. marked a.lists (named a.names f)) (filter (λ (f : Flight). nat_lt run f.seq) s.flights)) (plain run s.acked clock t p a.lists).timers
unfolding plain
heard_pairs s held packets t clock run p a is old =
    let fs = filter (λ (f : Flight). nat_lt run f.seq) s.flights in
    let ts = filter (λ (x : Timer). nat_lt run x.seq) t.timers in
    let left = without (is_upto s.conn run) held in
    let listed = filter (stands_among ts) a.lists in
    let R = Waits s.end packets s.conn held clock in
    let S = Waits s.end packets s.conn left clock in
    alike_map (λ f x. R f x × Contains fs f × Contains ts x) S (λ f. marked a.lists (named a.names f)) (λ x. marked_in listed (named_in p x)) fs ts
    (λ f x w.
    let high = lt_of run x.seq (in_filter (λ (y : Timer). nat_lt run y.seq) t.timers x w.2).1 in
    let here : S f x = record { seq = w.0.seq; tries = w.0.tries; since = w.0.since; resent = w.0.resent; waits = still_waits s.conn run held x high w.0.waits; soon = w.0.soon; same = w.0.same } in
    let pair = named_pair s.end packets s.conn left clock p a f x is here in
    let among : is_among a.lists (named a.names f).seq ≡ list_any (λ n. n == (named_in p x).seq) listed =
    ap (is_among a.lists) (sym pair.seq) ∙ listed_same ts a.lists (named_in p x).seq (ap (stands_among ts) (timer_seq p x) ∙ timer_among ts x w.2) in
    marked_pair s.end packets s.conn left clock a.lists listed (named a.names f) (named_in p x) among pair)
    (alike_in R fs ts (kept_pairs s held packets t clock run old))
  where
    timer_seq : (p : Packet) (x : Timer) → (named_in p x).seq ≡ x.seq
    timer_seq p x = by (names_its_number p.head.flags && (x.seq == p.head.seq))
      where
        by : (b : Bool) → (cond b (record x { tries = 0 }) x).seq ≡ x.seq
        by true = refl
        by false = refl

item_same : (conn : ℕ) (listed : List ℕ) (p : Packet) (x : Timer) → item_of conn x ≡ item_of conn (marked_in listed (named_in p x))
item_same conn listed p x = one (names_its_number p.head.flags && (x.seq == p.head.seq)) ∙ two (list_any (λ n. n == (named_in p x).seq) listed) (named_in p x)
  where
    one : (b : Bool) → item_of conn x ≡ item_of conn (cond b (record x { tries = 0 }) x)
    one true = refl
    one false = refl

    two : (b : Bool) (y : Timer) → item_of conn y ≡ item_of conn (cond b (record y { resent = true }) y)
    two true y = refl
    two false y = refl

pub mirrors_heard : (s : Sending) (held : List Item) (packets : List Sealed) (t : Timing) (clock : ℕ) (p : Packet) (a : Answer) → IsAnswerOf p a → run_with a s ≤ s.sent → max s.consumed a.consumed ≤ run_with a s → s.sent ≤ length packets
    → Mirrors s held packets t clock → Mirrors (hearing clock a s) (without (is_upto s.conn (run_with a s)) held) packets (plain (run_with a s) s.acked clock t p a.lists) clock
unfolding plain
mirrors_heard s held packets t clock p a is up taken le old =
    let run = run_with a s in
    let fs = filter (λ (f : Flight). nat_lt run f.seq) s.flights in
    let ts = filter (λ (x : Timer). nat_lt run x.seq) t.timers in
    let listed = filter (stands_among ts) a.lists in
    let low : s.acked ≤ run = omega arith in
    let window : cond ((run - s.acked) == 0) t.window (sample_in clock (timer_of run t.timers) (grown (run - s.acked) t.window)) ≡ freed_window clock run s = window_same s held packets t clock run old in
    let least : HasLeast (lost_with (copies fs a.lists) (freed_window clock run s)) = least_lost_with (copies fs a.lists) (freed_window clock run s) (window_least s clock run (old.depth, old.least)) in
    record {
      sealed = old.sealed;
      small = old.small;
      sizes = old.sizes;
      numbers = map_filter (nat_lt run) number_of s.kept ∙ ap (filter (nat_lt run)) old.numbers
          ∙ behind_above run s.acked (s.sealed - s.acked) low (omega (arith, up, le, old.sealed)) ∙ ap (numbers_behind run) (let e : s.acked + (s.sealed - s.acked) - run ≡ s.sealed - run = omega (arith, old.up, le, old.sealed) in e);
      kept = λ n above high. ap row_of (find_filter number_of (nat_lt run) s.kept n (lt_yes run n above)) ∙ old.kept n (omega (arith, above, low)) high;
      up = up;
      taken = taken;
      flights = map_map (λ (f : Flight). f.seq) (λ f. marked a.lists (named a.names f)) fs
          ∙ map_same (λ f. (marked a.lists (named a.names f)).seq) (λ (f : Flight). f.seq) fs (λ f at. marked_seq a.lists (named a.names f) ∙ named_seq a.names f)
          ∙ map_filter (nat_lt run) (λ (f : Flight). f.seq) s.flights ∙ ap (filter (nat_lt run)) old.flights
          ∙ behind_above run s.acked (s.sent - s.acked) low (omega (arith, up)) ∙ ap (numbers_behind run) (let e : s.acked + (s.sent - s.acked) - run ≡ s.sent - run = omega (arith, old.up) in e);
      timers = heard_pairs s held packets t clock run p a is old;
      alone = λ y at mine.
          let w = (rest_holds held (is_upto s.conn run) y).0 at in
          let x = old.alone y w.0 mine in
          let beyond : nat_le x.0.seq run ≡ false = sym (ap (λ (z : Item). nat_le z.seq run) x.2) ∙ upto_of (y.conn == s.conn) (nat_le y.seq run) w.1 (ap (λ n. n == s.conn) mine ∙ same_number s.conn) in
          let high = not_le_of x.0.seq run beyond in
          let there = filter_has (λ (z : Timer). nat_lt run z.seq) t.timers x.0 x.1 (lt_yes run x.0.seq high) in (
            marked_in listed (named_in p x.0),
            Contains-map (λ z. marked_in listed (named_in p z)) ts x.0 there,
            x.2 ∙ item_same s.conn listed p x.0,
          );
      window = ap (lost_where listed) window ∙ lost_same s.end packets s.conn held clock fs ts a.lists (freed_window clock run s) (kept_pairs s held packets t clock run old);
      depth = least.0;
      least = least.1;
      asked = ap (λ w. option_map (asked_later clock w) t.asked) window ∙ ap (option_map (asked_later clock (freed_window clock run s))) old.asked;
      asked_soon = λ x h. later_soon clock (freed_window clock run s) s.asked x h;
    }
  where
    upto_of : (b d : Bool) → (b && d) ≡ false → b ≡ true → d ≡ false
    upto_of true d h e = h
    upto_of false d h e = let bad : false ≡ true = e in cc

    not_le_of : (a b : ℕ) → nat_le a b ≡ false → b < a
    not_le_of a b e = let lt = leb-false a b e in omega (arith, lt)
