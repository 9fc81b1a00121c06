-- What a tick makes of a connection and its queue.
use Rattle.std.proofs.Common.{◌≡◌, ℕ, ◌+◌, ◌-◌, ◌<◌, ◌≤◌, List, [], ◌∷◌, ◌++◌, length, map, Bool, true, false, not, Ok, refl, ap, sym, ◌∙◌, subst, arith, inl, inr}
use Rattle.std.specs.Prelude.{filter, ◌↔◌}
use Rattle.std.specs.List.{Contains}
use Rattle.std.specs.declared.cmp.Ordering.{Ordering}
use Rattle.std.specs.declared.cmp.Ordering.TheVariants.{Less, Equal, Greater}
use Rattle.std.specs.Ordering.{nat_cmp, ordering_then, MatchOrdering}
use Rattle.std.proofs.lemmas.Cmp.{ranked}
use Rattle.std.proofs.lemmas.Bool.{cases_Bool, leb-true}
use Rattle.std.proofs.lemmas.List.Elements.{All-contains}
use Rattle.std.proofs.lemmas.List.Filters.{length-filter_both}
use Rattle.ic_base.specs.declared.keys.ConnEnd.{ConnEnd}
use Rattle.ic_base.specs.declared.settings.Settings.{Settings}
use Rattle.ic_expire.specs.declared.item.Item.{Item}
use Rattle.ic_expire.specs.declared.dues.Due.{Due}
use Rattle.ic_expire.specs.Items.{IsBefore, packet_of, is_due}
use Rattle.ic_expire.specs.Queue.{Queue, IsQueue, EachLater, IsHeld, dues_of, without}
use Rattle.ic_expire.proofs.Lists.{later_filter}
use Rattle.ic_expire.proofs.Holding.{rest_holds, due_takes}
use Rattle.ic_law.specs.declared.history.HubAsk.{HubAsk}
use Rattle.ic_law.specs.declared.history.HubAsk.TheVariants.{Tick}
use Rattle.ic_law.specs.declared.history.HubReply.TheVariants.{Ticked}
use Rattle.ic_law.specs.declared.history.Entry.{Entry}
use Rattle.ic_law.specs.Putting.{chunk_put, chunks_put_of, finishes, is_finish, finished_of}
use Rattle.ic_law.specs.Numbers.{IsIncreasingFrom}
use Rattle.ic_law.specs.Clock.{clock_of, ticks_by}
use Rattle.ic_law.specs.Emitting.{query_due}
use Rattle.ic_law.proofs.Lists.{Contains-none, Contains-head, Contains-tail, Contains-map, map-Contains}
use Rattle.ic_law.proofs.Timings.{ticks_of-push}
use Rattle.ic_sender.specs.declared.flight.Flight.{Flight}
use Rattle.ic_sender.specs.Sending.{Sending, waits_longer}
use Rattle.ic_sender.specs.Entries.{IsTicking, Ticks, tried_when, queried_when}
use Rattle.ic_sender.proofs.Lists.{behind_has, in_filter, length-map}
use Rattle.ic_sender.proofs.Dues.{longer_is}
use Rattle.ic_sender.proofs.Passing.{finished_stays}
use Rattle.ic_sender.proofs.Ticking.{ticks_stand}
use Rattle.ic_chunk.specs.Counts.{HasCounted}
use Rattle.ic_timed_sender.specs.Timed.{TimedState, next_tick, numbers_due, datagrams_due, queries_due, ticking, MayTick}
use Rattle.ic_timed_sender.specs.Standing.{Stands, HasResent, IsSound}
use Rattle.ic_timed_sender.proofs.Room.{IsFlying, flying}
use Rattle.ic_timed_sender.proofs.Counting.{ends_none, rows_after, resent_after, ticks_send}
use Rattle.ic_timed_sender.proofs.Steps.{state}

-- ---- what is due increases

compared : (a b : ℕ) → a ≡ b → nat_cmp a b ≡ Equal
compared a b same = by (nat_cmp a b) (ranked a b (nat_cmp a b) refl)
  where
    by : (o : Ordering) → MatchOrdering o (a < b) (a ≡ b) (b < a) → o ≡ Equal
    by Less r = absurd (omega (arith, r, same))
    by Equal r = refl
    by Greater r = absurd (omega (arith, r, same))

less_by : (a b : ℕ) → nat_cmp a b ≡ Less → a < b
less_by a b h = by (nat_cmp a b) (ranked a b (nat_cmp a b) refl) h
  where
    by : (o : Ordering) → MatchOrdering o (a < b) (a ≡ b) (b < a) → o ≡ Less → a < b
    by Less r e = r
    by Equal r e = absurd (let bad : Equal ≡ Less = e in cc)
    by Greater r e = absurd (let bad : Greater ≡ Less = e in cc)

-- of packets of one connection that are due at one tick the one before has the lesser number
before_less : (x y : Item) → x.due ≡ y.due → x.conn ≡ y.conn → IsBefore x y → x.seq < y.seq
before_less x y due conn before =
    less_by x.seq y.seq (sym (ap (λ o. ordering_then o (ordering_then (nat_cmp x.conn y.conn) (nat_cmp x.seq y.seq))) (compared x.due y.due due)
    ∙ ap (λ o. ordering_then o (nat_cmp x.seq y.seq)) (compared x.conn y.conn conn)) ∙ before)

in_order : (next conn least : ℕ) (xs : List Item) → EachLater IsBefore xs → ((y : Item) → Contains xs y → (y.due ≡ next) × (y.conn ≡ conn) × (least ≤ y.seq)) → IsIncreasingFrom least (map (λ (d : Due). d.seq) (map packet_of xs))
in_order next conn least [] later are = tt
in_order next conn least (x ∷ xs) later are =
    let here = are x (Contains-head x xs) in (
      here.2,
      in_order next conn (x.seq + 1) xs later.1 (λ y at.
          let w = are y (Contains-tail x xs y at) in
          let lt = before_less x y (here.0 ∙ sym w.0) (here.1 ∙ sym w.1) (All-contains (IsBefore x) xs y later.0 at) in
          (w.0, w.1, omega (arith, lt))),
    )

pub due_increase : (s : Sending) (q : Queue) (now rows : ℕ) → IsSound s q now rows → IsQueue q → IsIncreasingFrom 1 (numbers_due (state s q.held now rows))
due_increase s q now rows sound queue =
    in_order (next_tick now) s.conn 1 (filter (is_due (next_tick now)) q.held) (later_filter IsBefore (is_due (next_tick now)) q.held queue.sorted) (λ y at.
    let w = in_filter (is_due (next_tick now)) q.held y at in
    let upto = leb-true y.due (next_tick now) w.1 in
    let f = waiting y w.0 in
    (omega (arith, upto, f.later), sound.own y w.0, omega (arith, f.from)))
  where
    waiting : (y : Item) → Contains q.held y → IsFlying s now y
    waiting y at = elim (cases_Bool s.stopped) [
      | inl off ↦ absurd (Contains-none y (subst (λ l. Contains l y) (sound.still off) at))
      | inr on ↦ flying s q now rows sound on y at
    ]

-- what is due is on its way
due_fly : (s : Sending) (q : Queue) (now rows : ℕ) → IsSound s q now rows → (n : ℕ) → Contains (numbers_due (state s q.held now rows)) n → Contains (map (λ (f : Flight). f.seq) s.flights) n
due_fly s q now rows sound n at =
    let next = next_tick now in
    let p = map-Contains (λ (d : Due). d.seq) (dues_of next q.held) n at in
    let y = map-Contains packet_of (filter (is_due next) q.held) p.0 p.1 in
    let waits = (in_filter (is_due next) q.held y.0 y.1).0 in
    let number : n ≡ y.0.seq = p.2 ∙ ap (λ (d : Due). d.seq) y.2 in
    elim (cases_Bool s.stopped) [
      | inl off ↦ absurd (Contains-none y.0 (subst (λ l. Contains l y.0) (sound.still off) waits))
      | inr on ↦
          let m = (sound.stands.sends.reflects.runs on).mirrors in
          let f = flying s q now rows sound on y.0 waits in
          subst (λ l. Contains l n) (sym m.flights) (behind_has s.acked (s.sent - s.acked) n (omega (arith, number, f.from)) (omega (arith, number, f.upto, m.up)))
    ]

-- ---- what is due waits no more, and then waits longer

-- a number that is due is of a packet that is due
due_to : (s : Sending) (q : Queue) (now rows : ℕ) → IsSound s q now rows → (n : ℕ) → Contains (numbers_due (state s q.held now rows)) n → Contains (dues_of (next_tick now) q.held) (record { conn = s.conn; seq = n })
due_to s q now rows sound n at =
    let next = next_tick now in
    let p = map-Contains (λ (d : Due). d.seq) (dues_of next q.held) n at in
    let y = map-Contains packet_of (filter (is_due next) q.held) p.0 p.1 in
    let mine = sound.own y.0 (in_filter (is_due next) q.held y.0 y.1).0 in
    let conn : p.0.conn ≡ s.conn = ap (λ (d : Due). d.conn) y.2 ∙ mine in
    let same : p.0 ≡ record { conn = s.conn; seq = n } = ap (λ k. due k p.0.seq) conn ∙ ap (due s.conn) (sym p.2) in
    subst (Contains (dues_of next q.held)) same p.1
  where
    due : ℕ → ℕ → Due
    due conn seq = record { conn = conn; seq = seq }

pub due_both : (s : Sending) (q : Queue) (now rows : ℕ) → IsSound s q now rows → (n : ℕ) → Contains (numbers_due (state s q.held now rows)) n ↔ Contains (dues_of (next_tick now) q.held) (record { conn = s.conn; seq = n })
due_both s q now rows sound n = (due_to s q now rows sound n, λ at. Contains-map (λ (d : Due). d.seq) (dues_of (next_tick now) q.held) (record { conn = s.conn; seq = n }) at)

pub due_taken : (s : Sending) (q : Queue) (now rows : ℕ) → IsSound s q now rows → IsQueue q → (n : ℕ) → Contains (numbers_due (state s q.held now rows)) n → IsHeld s.conn n (without (is_due (next_tick now)) q.held) → ⊥
due_taken s q now rows sound queue n at held = (due_takes q.held (next_tick now) queue.once).1 (record { conn = s.conn; seq = n }) (due_to s q now rows sound n at) held

pub due_room : (s : Sending) (q : Queue) (now rows : ℕ) → IsSound s q now rows → IsQueue q → length (without (is_due (next_tick now)) q.held) + length (numbers_due (state s q.held now rows)) ≤ q.room
due_room s q now rows sound queue =
    let P = is_due (next_tick now) in
    let both : length (filter P q.held) + length (filter (λ y. not (P y)) q.held) ≡ length q.held = length-filter_both P (λ y. not (P y)) (λ y. refl) q.held in
    let dues = dues_of (next_tick now) q.held in
    omega (arith, both, length-map (λ (d : Due). d.seq) dues, length-map packet_of (filter P q.held), queue.fits)

-- ---- one connection still

pub record SameConn (s m : Sending) : Type 0 where
  pub end : m.end ≡ s.end
  pub conn : m.conn ≡ s.conn
  pub settings : m.settings ≡ s.settings
  pub finished : m.finished ≡ s.finished
  pub stopped : m.stopped ≡ s.stopped

queried_same : (now : ℕ) (s : Sending) (b : Bool) → SameConn s (queried_when b now s)
queried_same now s true = record { end = refl; conn = refl; settings = refl; finished = refl; stopped = refl }
queried_same now s false = record { end = refl; conn = refl; settings = refl; finished = refl; stopped = refl }

tried_same : (s : Sending) (numbers : List ℕ) → SameConn s (tried_when numbers s)
tried_same s [] = record { end = refl; conn = refl; settings = refl; finished = refl; stopped = refl }
tried_same s (n ∷ numbers) = record { end = refl; conn = refl; settings = refl; finished = refl; stopped = refl }

pub ticking_same : (o : TimedState) → SameConn o.sending (ticking o).sending
ticking_same o =
    let m = tried_when (numbers_due o) o.sending in
    let a = tried_same o.sending (numbers_due o) in
    let b = queried_same (next_tick o.now) m (query_due (next_tick o.now) o.sending.asked) in
    record { end = b.end ∙ a.end; conn = b.conn ∙ a.conn; settings = b.settings ∙ a.settings; finished = b.finished ∙ a.finished; stopped = b.stopped ∙ a.stopped }

-- ---- it stands

pub tick_stands : (s : Sending) (q : Queue) (now rows : ℕ) (numbers : List ℕ) → IsSound s q now rows → IsQueue q → MayTick (state s q.held now rows) numbers
    → (h : List Entry) (e : Entry) → IsTicking s.end.key (datagrams_due (state s q.held now rows) ++ queries_due (state s q.held now rows)) e → Stands (state s q.held now rows) h → Stands (ticking (state s q.held now rows)) (h ++ e ∷ [])
tick_stands s q now rows numbers sound queue may h e is old =
    let o = state s q.held now rows in
    let next = next_tick now in
    let mine = datagrams_due o ++ queries_due o in
    let new = (ticking o).sending in
    let left = (ticking o).held in
    let same = ticking_same o in
    let one : ticks_by e.reply ≡ 1 = ap ticks_by is.reply in
    let more = ticks_of-push h e in
    let clock : clock_of (h ++ e ∷ []) ≡ next = let at : clock_of h ≡ now = old.clock in omega (arith, one, more, at) in
    let none : finishes s.end.key e ≡ false = ap (λ (a : HubAsk). is_finish s.end.key a e.reply) is.ask in
    let ticks : Ticks next s q.held mine new left = record {
      numbers = numbers_due o;
      increase = due_increase s q now rows sound queue;
      due = due_both s q now rows sound;
      unspent = may.unspent;
      answered = may.answered;
      datagrams = refl;
      state = refl;
      waits = refl;
    } in
    record {
      clock = clock;
      finished = ap (λ (x : ConnEnd). finished_of x.key (h ++ e ∷ [])) same.end ∙ finished_stays s.end.key h e none ∙ old.finished ∙ sym same.finished;
      sends = ticks_stand s q.held next mine new left h e ticks clock is old.sends;
      rows = subst (λ (x : ConnEnd). HasCounted (chunks_put_of x.key (h ++ e ∷ [])) rows) (sym same.end)
          (rows_after s.end.key rows rows h e (ends_none s.end.key rows e (ap (λ (a : HubAsk). chunk_put s.end.key a e.reply) is.ask)) old.rows);
      resent = subst (λ (x : ConnEnd). HasResent x.key (h ++ e ∷ []) new.sent new.resent) (sym same.end)
          (resent_after s new h e (ticks_send s q.held h next next (numbers_due o) (query_due next s.asked) e old.sends (due_fly s q now rows sound) is) old.resent);
    }

-- once nothing waits nothing is due
nothing_left : (s : Sending) (now rows : ℕ) (held : List Item) → held ≡ [] → (ticking (state s held now rows)).held ≡ []
nothing_left s now rows held none = ap (λ l. waits_longer (next_tick now) s (map (λ (d : Due). d.seq) (dues_of (next_tick now) l)) (without (is_due (next_tick now)) l)) none

pub tick_sound : (s : Sending) (q : Queue) (now rows : ℕ) (numbers : List ℕ) → IsSound s q now rows → IsQueue q → MayTick (state s q.held now rows) numbers
    → IsSound (ticking (state s q.held now rows)).sending (record { held = (ticking (state s q.held now rows)).held; asked = next_tick now; room = q.room }) (next_tick now) rows
tick_sound s q now rows numbers sound queue may =
    let o = state s q.held now rows in
    let next = next_tick now in
    let same = ticking_same o in
    let mine = datagrams_due o ++ queries_due o in
    let e : Entry = record { ask = Tick; reply = Ticked (Ok mine) } in
    let is : IsTicking s.end.key mine e = record { ds = mine; ask = refl; reply = refl; among = record { rows = refl; queries = refl; each = λ d at. inl at } } in
    record {
      conn = same.conn ∙ sound.conn;
      asked = refl;
      last = omega arith;
      room = sound.room ∙ ap (λ (x : Settings). x.send_depth) (sym same.settings);
      own = λ y at. own y at ∙ sym same.conn;
      still = λ off. nothing_left s now rows q.held (sound.still (sym same.stopped ∙ off));
      history = sound.history ++ e ∷ [];
      stands = tick_stands s q now rows numbers sound queue may sound.history e is sound.stands;
    }
  where
    own : (y : Item) → Contains (ticking (state s q.held now rows)).held y → y.conn ≡ s.conn
    own y at = elim (longer_is (next_tick now) s (numbers_due (state s q.held now rows)) (without (is_due (next_tick now)) q.held) y at) [
      | inl before ↦ sound.own y ((rest_holds q.held (is_due (next_tick now)) y).0 before).0
      | inr again ↦ ap (λ (x : Item). x.conn) again.2
    ]

-- ---- by its steps

-- the queue, once the time has passed
abbrev pub passed : Queue → ℕ → Queue
passed q next = record q { held = without (is_due next) q.held; asked = next }

asked_same : (numbers : List ℕ) (s : Sending) → (tried_when numbers s).asked ≡ s.asked
asked_same [] s = refl
asked_same (n ∷ numbers) s = refl

pub ticked_as : (s : Sending) (q waits left : Queue) (now rows next : ℕ) (numbers : List ℕ) (tried after : Sending) → next ≡ next_tick now → MayTick (state s q.held now rows) numbers → waits ≡ passed q next → tried ≡ tried_when numbers s
    → left ≡ record waits { held = waits_longer next s numbers waits.held } → after ≡ queried_when (query_due next tried.asked) next tried
    → (after ≡ (ticking (state s q.held now rows)).sending) × (left ≡ record { held = (ticking (state s q.held now rows)).held; asked = next_tick now; room = q.room })
ticked_as s q waits left now rows next numbers tried after next_is may pass try wait ask = (
  ask ∙ ap (λ (x : Sending). queried_when (query_due next x.asked) next x) try ∙ ap (λ o. queried_when (query_due next o) next (tried_when numbers s)) (asked_same numbers s)
      ∙ ap (λ n. queried_when (query_due n s.asked) n (tried_when numbers s)) next_is
      ∙ ap (λ l. queried_when (query_due (next_tick now) s.asked) (next_tick now) (tried_when l s)) may.due,
  wait ∙ ap (λ (x : Queue). record x { held = waits_longer next s numbers x.held }) pass
      ∙ ap (λ (n : ℕ). record { held = waits_longer n s numbers (without (is_due n) q.held); asked = n; room = q.room }) next_is
      ∙ ap (λ (l : List ℕ). record { held = waits_longer (next_tick now) s l (without (is_due (next_tick now)) q.held); asked = next_tick now; room = q.room }) may.due,
)
