-- What a look at the next tick tells of the histories for which a connection stands.
use Rattle.std.proofs.Common.{◌≡◌, ℕ, ◌+◌, ◌-◌, List, [], ◌∷◌, map, Bool, true, false, cond, ◌&&◌, ◌||◌, ◌==◌, Option, Some, None, Result, refl, ap, sym, ◌∙◌, subst, arith, inl, inr}
use Rattle.std.specs.Prelude.{filter, find, IfOk}
use Rattle.std.specs.List.{Contains, list_any}
use Rattle.std.proofs.lemmas.Bool.{cases_Bool, eqb-true}
use Rattle.ic_base.specs.declared.settings.Settings.{Settings}
use Rattle.ic_base.specs.declared.datagram.Datagram.{Datagram}
use Rattle.ic_expire.specs.declared.item.Item.{Item}
use Rattle.ic_expire.specs.declared.dues.Due.{Due as DuePacket}
use Rattle.ic_expire.specs.Items.{packet_of}
use Rattle.ic_expire.specs.Items.{is_due as is_item_due}
use Rattle.ic_expire.specs.Queue.{Queue, IsQueue}
use Rattle.ic_law.specs.declared.history.Entry.{Entry}
use Rattle.ic_law.specs.Filling.{sealed_of}
use Rattle.ic_law.specs.History.{sent_upto}
use Rattle.ic_law.specs.Numbers.{IsIncreasingFrom}
use Rattle.ic_law.specs.Clock.{clock_of, next_clock}
use Rattle.ic_law.specs.Timers.{Timer, Asked, is_due, due_numbers}
use Rattle.ic_law.specs.Timing.{timing_of}
use Rattle.ic_law.specs.Spending.{has_no_try, spent_timers, spent_query}
use Rattle.ic_law.proofs.Lists.{Contains-head, Contains-tail}
use Rattle.ic_sender.specs.declared.flight.Flight.{Flight}
use Rattle.ic_sender.specs.declared.send_no.SendNo.{SendNo}
use Rattle.ic_sender.specs.Sending.{Sending, spent_of}
use Rattle.ic_sender.specs.Sending.{has_no_try as has_none_left}
use Rattle.ic_sender.specs.Calls.{Queries, is_unanswered}
use Rattle.ic_sender.specs.Standing.{Waits, Mirrors, Stands as StandsFor}
use Rattle.ic_sender.proofs.Lists.{same_number}
use Rattle.ic_sender.proofs.Dues.{behind_increasing, alike_seqs, alike_timer, seqs_increase, find_itself}
use Rattle.ic_sender.proofs.Dues.{numbers_due as numbers_are}
use Rattle.ic_sender.proofs.Knowing.{sent_is}
use Rattle.ic_sender.proofs.Ticking.{not_any}
use Rattle.ic_timed_sender.specs.declared.due.Due.{Due}
use Rattle.ic_timed_sender.specs.Timed.{next_tick, is_due_next, numbers_due, first_spent, is_query_spent}
use Rattle.ic_timed_sender.specs.Looking.{Looks}
use Rattle.ic_timed_sender.specs.Emitted.{AreOutgoing}
use Rattle.ic_timed_sender.specs.Standing.{Stands, KeepsPackets, GivesPacketUp, KeepsQuery, GivesQueryUp, Tells, IsQuiet, IsSound}
use Rattle.ic_timed_sender.proofs.Formed.{all_copies_formed, all_queries_formed}
use Rattle.ic_timed_sender.proofs.Steps.{state}
use Rattle.ic_timed_sender.proofs.Ticking.{due_increase, due_both}

next_is : (h : List Entry) (now : ℕ) → clock_of h ≡ now → next_clock h ≡ next_tick now
next_is h now at = omega (arith, at)

-- ---- the first that is given up

abbrev Spends : Option ℕ → List Timer → Type 0
Spends None spent = spent ≡ []
Spends (Some n) spent = (t : Timer) × (more : List Timer) × (spent ≡ t ∷ more) × (t.seq ≡ n)

spends : (none_left : ℕ → Bool) (now retries : ℕ) (ts : List Timer) → ((t : Timer) → Contains ts t → none_left t.seq ≡ (t.tries == retries))
    → Spends (find none_left (due_numbers now ts)) (filter (λ t. is_due now t && (t.tries == retries)) ts)
spends none_left now retries [] same = refl
spends none_left now retries (t ∷ ts) same = by (is_due now t) (spends none_left now retries ts (λ x at. same x (Contains-tail t ts x at)))
  where
    found : Option ℕ
    found = find none_left (due_numbers now ts)

    spent : List Timer
    spent = filter (λ x. is_due now x && (x.tries == retries)) ts

    both : (b : Bool) → Spends found spent → Spends (cond b (Some t.seq) found) (cond b (t ∷ spent) spent)
    both true rest = (t, spent, refl, refl)
    both false rest = rest

    by : (due : Bool) → Spends found spent → Spends (find none_left (map (λ (x : Timer). x.seq) (cond due (t ∷ filter (is_due now) ts) (filter (is_due now) ts)))) (cond (due && (t.tries == retries)) (t ∷ spent) spent)
    by false rest = rest
    by true rest = subst (λ b. Spends (cond b (Some t.seq) found) (cond (t.tries == retries) (t ∷ spent) spent)) (sym (same t (Contains-head t ts))) (both (t.tries == retries) rest)

any_has : {A : Type 0} (p : A → Bool) (xs : List A) → list_any p xs ≡ true → (x : A) × Contains xs x × (p x ≡ true)
any_has p [] h = let bad : false ≡ true = h in cc
any_has {A = A} p (x ∷ xs) h = by (p x) refl h (any_has p xs)
  where
    by : (b : Bool) → p x ≡ b → (b || list_any p xs) ≡ true → (list_any p xs ≡ true → (y : A) × Contains xs y × (p y ≡ true)) → (y : A) × Contains (x ∷ xs) y × (p y ≡ true)
    by true e h rest = (x, Contains-head x xs, e)
    by false e h rest = let w = rest h in (w.0, Contains-tail x xs w.0 w.1, w.2)

and_both : (a b : Bool) → (a && b) ≡ true → (a ≡ true) × (b ≡ true)
and_both true b h = (refl, h)
and_both false b h = let bad : false ≡ true = h in cc

-- ---- while it runs

module _ (s : Sending) (held : List Item) (h : List Entry) (stands : StandsFor s held h) (on : s.stopped ≡ false) where
  mirrors : Mirrors s held (sealed_of s.end.key s.settings h) (timing_of s.end.key s.settings h) (clock_of h)
  mirrors = (stands.reflects.runs on).mirrors

  -- a packet has no resending left where its timer says so
  left_is : (t : Timer) → Contains (timing_of s.end.key s.settings h).timers t → has_none_left s t.seq ≡ (t.tries == s.settings.retries)
  left_is t at =
      let R = Waits s.end (sealed_of s.end.key s.settings h) s.conn held (clock_of h) in
      let retries = s.settings.retries in
      let f = alike_timer R s.flights (timing_of s.end.key s.settings h).timers t mirrors.timers at in
      let test : Flight → Bool = (λ (g : Flight). (g.seq == t.seq) && (g.tries == retries)) in
      let seq : t.seq ≡ f.0.seq = f.2.seq in
      let tries : t.tries ≡ f.0.tries = f.2.tries in
      let inc : IsIncreasingFrom (s.acked + 1) (map (λ (g : Flight). g.seq) s.flights) = subst (IsIncreasingFrom (s.acked + 1)) (sym mirrors.flights) (behind_increasing s.acked (s.sent - s.acked)) in
      elim (cases_Bool (list_any test s.flights)) [
        | inl some_ ↦
            let g = any_has test s.flights some_ in
            let pass = and_both (g.0.seq == t.seq) (g.0.tries == retries) g.2 in
            let number : g.0.seq ≡ f.0.seq = eqb-true g.0.seq t.seq pass.0 ∙ seq in
            let one : find (λ (y : Flight). y.seq == f.0.seq) s.flights ≡ Some g.0 = ap (λ n. find (λ (y : Flight). y.seq == n) s.flights) (sym number) ∙ find_itself (λ (y : Flight). y.seq) (s.acked + 1) s.flights g.0 inc g.1 in
            let two : find (λ (y : Flight). y.seq == f.0.seq) s.flights ≡ Some f.0 = find_itself (λ (y : Flight). y.seq) (s.acked + 1) s.flights f.0 inc f.1 in
            let both : Some g.0 ≡ Some f.0 = sym one ∙ two in
            let same : g.0 ≡ f.0 = cc in
            some_ ∙ sym (ap (λ n. n == retries) (tries ∙ ap (λ (y : Flight). y.tries) (sym same)) ∙ pass.1)
        | inr none ↦
            let fails : test f.0 ≡ false = not_any test s.flights f.0 none f.1 in
            let here : (f.0.seq == t.seq) ≡ true = ap (λ n. f.0.seq == n) seq ∙ same_number f.0.seq in
            none ∙ sym (ap (λ n. n == retries) tries ∙ sym (ap (λ b. b && (f.0.tries == retries)) here) ∙ fails)
      ]

numbers_of : (s : Sending) (q : Queue) (now rows : ℕ) (h : List Entry) → IsSound s q now rows → IsQueue q → StandsFor s q.held h → s.stopped ≡ false → numbers_due (state s q.held now rows) ≡ due_numbers (next_tick now) (timing_of s.end.key s.settings h).timers
numbers_of s q now rows h sound queue stands on =
    let R = Waits s.end (sealed_of s.end.key s.settings h) s.conn q.held (clock_of h) in
    let timers = (timing_of s.end.key s.settings h).timers in
    let m = mirrors s q.held h stands on in
    let inc = seqs_increase s.acked (s.sent - s.acked) timers s.flights (alike_seqs R s.flights timers (λ f x w. w.seq) m.timers) m.flights in
    numbers_are s.conn (next_tick now) s.acked q.held timers (numbers_due (state s q.held now rows)) inc (due_increase s q now rows sound queue) (λ n at. (due_both s q now rows sound n).0 at) (λ n at. (due_both s q now rows sound n).1 at)
    (λ x at. (alike_timer R s.flights timers x m.timers at).2.waits) m.alone

-- ---- packets

spent_are : (s : Sending) (q : Queue) (now rows : ℕ) (h : List Entry) → IsSound s q now rows → IsQueue q → Stands (state s q.held now rows) h → Spends (first_spent (state s q.held now rows)) (spent_timers s.settings (next_clock h) (timing_of s.end.key s.settings h))
spent_are s q now rows h sound queue stands =
    let t = timing_of s.end.key s.settings h in
    let next = next_tick now in
    let o = state s q.held now rows in
    subst (λ n. Spends (first_spent o) (spent_timers s.settings n t)) (sym (next_is h now stands.clock)) (elim (cases_Bool s.stopped) [
      | inl off ↦
          let none : first_spent o ≡ None = ap (λ l. first_spent (state s l now rows)) (sound.still off) in
          let empty : spent_timers s.settings next t ≡ [] = ap (filter (has_no_try s.settings next)) (stands.sends.reflects.still off).timers in
          subst (λ x. Spends x (spent_timers s.settings next t)) (sym none) empty
      | inr on ↦
          subst (λ l. Spends (find (has_none_left s) l) (spent_timers s.settings next t)) (sym (numbers_of s q now rows h sound queue stands.sends on))
          (spends (has_none_left s) next s.settings.retries t.timers (left_is s q.held h stands.sends on))
    ])

none_both : {A : Type 0} (b : Bool) → cond {A = List A} b [] [] ≡ []
none_both true = refl
none_both false = refl

keeps_packets : (s : Sending) (h : List Entry) → spent_timers s.settings (next_clock h) (timing_of s.end.key s.settings h) ≡ [] → KeepsPackets s h
keeps_packets s h none = record {
  timers = none;
  packets = ap (λ l. cond s.end.sending (map (λ (x : Timer). (s.end.key, x.seq)) l) []) none ∙ none_both s.end.sending;
}

gives_packet : (s : Sending) (h : List Entry) (n : ℕ) (t : Timer) (more : List Timer) → spent_timers s.settings (next_clock h) (timing_of s.end.key s.settings h) ≡ t ∷ more → t.seq ≡ n → GivesPacketUp s n h
gives_packet s h n t more are seq = record {
  more = map (λ (x : Timer). (s.end.key, x.seq)) more;
  packets = λ sends.
      ap (λ b. cond b (map (λ (x : Timer). (s.end.key, x.seq)) (spent_timers s.settings (next_clock h) (timing_of s.end.key s.settings h))) []) sends
      ∙ ap (map (λ (x : Timer). (s.end.key, x.seq))) are ∙ ap (λ (k : ℕ). (s.end.key, k) ∷ map (λ (x : Timer). (s.end.key, x.seq)) more) seq;
}

pub looks_tell : (s : Sending) (q : Queue) (now rows : ℕ) (result : Result Due SendNo) → IsSound s q now rows → IsQueue q → Looks (state s q.held now rows) result → Tells (state s q.held now rows) KeepsPackets GivesPacketUp result
looks_tell s q now rows result sound queue (Looks.Again none is) =
    subst (λ (r : Result Due SendNo). Tells (state s q.held now rows) KeepsPackets GivesPacketUp r) (sym is) (λ h stands.
    keeps_packets s h (subst (λ x. Spends x (spent_timers s.settings (next_clock h) (timing_of s.end.key s.settings h))) none (spent_are s q now rows h sound queue stands)))
looks_tell s q now rows result sound queue (Looks.GivenUp n some_ is) =
    subst (λ (r : Result Due SendNo). Tells (state s q.held now rows) KeepsPackets GivesPacketUp r) (sym is) (
      refl,
      refl,
      λ h stands.
          let w = subst (λ x. Spends x (spent_timers s.settings (next_clock h) (timing_of s.end.key s.settings h))) some_ (spent_are s q now rows h sound queue stands) in gives_packet s h n w.0 w.1 w.2 w.3,
    )
looks_tell s q now rows result sound queue (Looks.LooksWithout is) = subst (λ (r : Result Due SendNo). Tells (state s q.held now rows) KeepsPackets GivesPacketUp r) (sym is) tt

-- ---- while nothing is due

none_passes : {A : Type 0} (p : A → Bool) (xs : List A) → list_any p xs ≡ false → filter p xs ≡ []
none_passes p [] none = refl
none_passes p (x ∷ xs) none = elim (cases_Bool (p x)) [
  | inl pass ↦ absurd (let bad : true ≡ false = sym (ap (λ b. b || list_any p xs) pass) ∙ none in cc)
  | inr fails ↦ rw fails (none_passes p xs (sym (ap (λ b. b || list_any p xs) fails) ∙ none))
]

pub quiet : (s : Sending) (q : Queue) (now rows : ℕ) → IsSound s q now rows → IsQueue q → is_due_next (state s q.held now rows) ≡ false → IsQuiet (state s q.held now rows)
quiet s q now rows sound queue none =
    let numbers : numbers_due (state s q.held now rows) ≡ [] = ap (λ xs. map (λ (d : DuePacket). d.seq) (map packet_of xs)) (none_passes (is_item_due (next_tick now)) q.held none) in
    record {
      numbers = numbers;
      keeps = λ h stands.
          keeps_packets s h (subst (λ x. Spends x (spent_timers s.settings (next_clock h) (timing_of s.end.key s.settings h))) (ap (spent_of s) numbers) (spent_are s q now rows h sound queue stands));
    }

pub looks_formed : (s : Sending) (q : Queue) (now rows : ℕ) (result : Result Due SendNo) → IsSound s q now rows → Looks (state s q.held now rows) result → IfOk result (λ (d : Due). AreOutgoing s d.datagrams)
looks_formed s q now rows result sound (Looks.Again none is) =
    subst (λ (r : Result Due SendNo). IfOk r (λ (d : Due). AreOutgoing s d.datagrams)) (sym is) (all_copies_formed s q.held sound.history (numbers_due (state s q.held now rows)) sound.stands.sends)
looks_formed s q now rows result sound (Looks.GivenUp n some_ is) = subst (λ (r : Result Due SendNo). IfOk r (λ (d : Due). AreOutgoing s d.datagrams)) (sym is) tt
looks_formed s q now rows result sound (Looks.LooksWithout is) = subst (λ (r : Result Due SendNo). IfOk r (λ (d : Due). AreOutgoing s d.datagrams)) (sym is) tt

pub looks_increase : (s : Sending) (q : Queue) (now rows : ℕ) (result : Result Due SendNo) → IsSound s q now rows → IsQueue q → Looks (state s q.held now rows) result → IfOk result (λ (d : Due). IsIncreasingFrom 1 d.numbers)
looks_increase s q now rows result sound queue (Looks.Again none is) = subst (λ (r : Result Due SendNo). IfOk r (λ (d : Due). IsIncreasingFrom 1 d.numbers)) (sym is) (due_increase s q now rows sound queue)
looks_increase s q now rows result sound queue (Looks.GivenUp n some_ is) = subst (λ (r : Result Due SendNo). IfOk r (λ (d : Due). IsIncreasingFrom 1 d.numbers)) (sym is) tt
looks_increase s q now rows result sound queue (Looks.LooksWithout is) = subst (λ (r : Result Due SendNo). IfOk r (λ (d : Due). IsIncreasingFrom 1 d.numbers)) (sym is) tt

-- ---- the status query

asked_is : (s : Sending) (held : List Item) (h : List Entry) → StandsFor s held h → (timing_of s.end.key s.settings h).asked ≡ s.asked
asked_is s held h stands = elim (cases_Bool s.stopped) [
  | inl off ↦ let still = stands.reflects.still off in still.asked ∙ sym still.query
  | inr on ↦ (stands.reflects.runs on).mirrors.asked
]

query_same : (settings : Settings) (now : ℕ) (o : Option Asked) → spent_query settings now o ≡ is_unanswered settings.retries now o
query_same settings now None = refl
query_same settings now (Some a) = refl

query_is : (s : Sending) (held : List Item) (now rows : ℕ) (h : List Entry) → Stands (state s held now rows) h → spent_query s.settings (next_clock h) (timing_of s.end.key s.settings h).asked ≡ is_query_spent (state s held now rows)
query_is s held now rows h stands =
    ap (spent_query s.settings (next_clock h)) (asked_is s held h stands.sends) ∙ ap (λ n. spent_query s.settings n s.asked) (next_is h now stands.clock) ∙ query_same s.settings (next_tick now) s.asked

and_none : (b : Bool) → (b && false) ≡ false
and_none true = refl
and_none false = refl

pub queries_tell : (s : Sending) (held : List Item) (now rows : ℕ) (result : Result (List Datagram) SendNo) → Queries s (next_tick now) result → Tells (state s held now rows) KeepsQuery GivesQueryUp result
queries_tell s held now rows result (Queries.Asks answered is) =
    subst (λ (r : Result (List Datagram) SendNo). Tells (state s held now rows) KeepsQuery GivesQueryUp r) (sym is) (λ h stands.
    let none = query_is s held now rows h stands ∙ answered in
    record {
      asked = none;
      query = ap (λ b. cond (s.end.sending && b) ((s.end.key, sent_upto s.end.key h) ∷ []) []) none ∙ ap (λ b. cond b ((s.end.key, sent_upto s.end.key h) ∷ []) []) (and_none s.end.sending);
    })
queries_tell s held now rows result (Queries.Unanswered unanswered is) =
    subst (λ (r : Result (List Datagram) SendNo). Tells (state s held now rows) KeepsQuery GivesQueryUp r) (sym is) (
      refl,
      refl,
      λ h stands sends.
          ap (λ b. cond (b && spent_query s.settings (next_clock h) (timing_of s.end.key s.settings h).asked) ((s.end.key, sent_upto s.end.key h) ∷ []) []) sends
          ∙ ap (λ b. cond b ((s.end.key, sent_upto s.end.key h) ∷ []) []) (query_is s held now rows h stands ∙ unanswered) ∙ ap (λ (k : ℕ). (s.end.key, k) ∷ []) (sent_is s held h stands.sends.reflects),
    )
queries_tell s held now rows result (Queries.AsksWithout is) = subst (λ (r : Result (List Datagram) SendNo). Tells (state s held now rows) KeepsQuery GivesQueryUp r) (sym is) tt

pub queries_formed : (s : Sending) (q : Queue) (now rows next : ℕ) (result : Result (List Datagram) SendNo) → IsSound s q now rows → Queries s next result → IfOk result (AreOutgoing s)
queries_formed s q now rows next result sound (Queries.Asks answered is) =
    subst (λ (r : Result (List Datagram) SendNo). IfOk r (AreOutgoing s)) (sym is) (all_queries_formed s q.held sound.history next sound.stands.sends)
queries_formed s q now rows next result sound (Queries.Unanswered unanswered is) = subst (λ (r : Result (List Datagram) SendNo). IfOk r (AreOutgoing s)) (sym is) tt
queries_formed s q now rows next result sound (Queries.AsksWithout is) = subst (λ (r : Result (List Datagram) SendNo). IfOk r (AreOutgoing s)) (sym is) tt
