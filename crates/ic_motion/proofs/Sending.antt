-- How a sending end matches the steps, and what a call changes of that.
use Rattle.std.proofs.Common.{◌≡◌, ◌≢◌, ℕ, zero, suc, ◌<◌, length, ℤ, List, [], ◌∷◌, ◌++◌, Bool, true, false, ◌||◌, ◌&&◌, ◌==◌, cond, Some, ◌⊎◌, inl, inr, refl, ap, sym, ◌∙◌, subst, append-nil, append_assoc, arith, nat_lt, nat_le, filter}
use Rattle.std.specs.List.{AllByRecursion}
use Rattle.std.specs.Prelude.{slice_get, ◌<ℤ◌}
use Rattle.std.specs.Ordering.{int_eq}
use Rattle.std.proofs.lemmas.Bool.{cases_eq, leb-true, leb-false, lt-ltb, le-ltb, le-leb, lt-leb}
use Rattle.std.proofs.lemmas.List.Concat.{flat_map-append}
use Rattle.ic_base.specs.declared.port.PortNo.{PortNo}
use Rattle.ic_base.specs.declared.port.PortNo.TheVariants.{Stopped}
use Rattle.ic_base.specs.declared.port.PortAsk.{PortAsk}
use Rattle.ic_base.specs.declared.port.PortAsk.TheVariants.{Put, Finish}
use Rattle.ic_base.specs.declared.port.PortReply.{PortReply}
use Rattle.ic_base.specs.declared.port.PortReply.TheVariants.{Did, Refused}
use Rattle.ic_law.specs.Points.{IsPrefix}
use Rattle.pl_ops.specs.Rows.{Line}
use Rattle.pl_ops.specs.Routing.{Route, is_routed, routed}
use Rattle.pl_runs.specs.Steps.{Step, put_on, stopped_on, finished_on, chunk_in, chunk_of, stops, finishes, sends_on, is_done, is_stopped}
use Rattle.pl_runs.specs.Slices.{cut, row_chunks}
use Rattle.ic_motion.specs.Hearing.{Ascends}
use Rattle.ic_motion.specs.Sending.{route_by, Target, Work, Sender, receivers_of, pending, goes_to, left_at, Reaches, Sends, AreServed, handed}
use Rattle.ic_motion.specs.Putting.{IsOpen, stop_at, finish_at, reset, Begins, goes_on, begins, LeavesSame}
use Rattle.ic_motion.proofs.Lists.{or_end, or_none, any_push, flat_push, int_same, int_differ, below_apart}
use Rattle.ic_motion.proofs.Readings.{eqb_same}

-- ---- receivers

after_first : (a : ℤ) (as_ : List ℤ) (k : ℕ) (b : ℤ) → AllByRecursion (λ x. a <ℤ x) as_ → slice_get as_ k ≡ Some b → a <ℤ b
after_first a [] k b lt at = cc
after_first a (x ∷ as_) zero b lt at = let one : x ≡ b = cc in subst (λ y. a <ℤ y) one lt.0
after_first a (x ∷ as_) (suc k) b lt at = after_first a as_ k b lt.1 at

apart : (as_ : List ℤ) (i j : ℕ) (a b : ℤ) → Ascends as_ → slice_get as_ i ≡ Some a → slice_get as_ j ≡ Some b → i ≢ j → a ≡ b → ⊥
apart [] i j a b up x y ne same = cc
apart (c ∷ as_) zero zero a b up x y ne same = ne refl
apart (c ∷ as_) zero (suc j) a b up x y ne same = let one : c ≡ a = cc in below_apart c b (after_first c as_ j b up.0 y) (one ∙ same)
apart (c ∷ as_) (suc i) zero a b up x y ne same = let one : c ≡ b = cc in below_apart c a (after_first c as_ i a up.0 x) (one ∙ sym same)
apart (c ∷ as_) (suc i) (suc j) a b up x y ne same = apart as_ i j a b up.1 x y (λ e. ne (ap suc e)) same

get_to : (targets : List Target) (k : ℕ) (t : Target) → slice_get targets k ≡ Some t → slice_get (receivers_of targets) k ≡ Some t.to
get_to [] k t at = cc
get_to (x ∷ targets) zero t at = let one : x ≡ t = cc in ap (λ (y : Target). Some y.to) one
get_to (x ∷ targets) (suc k) t at = get_to targets k t at

pub to_apart : (targets : List Target) (i j : ℕ) (t u : Target) → Ascends (receivers_of targets) → slice_get targets i ≡ Some t → slice_get targets j ≡ Some u → i ≢ j → t.to ≡ u.to → ⊥
to_apart targets i j t u up x y ne = apart (receivers_of targets) i j t.to u.to up (get_to targets i t x) (get_to targets j u y) ne

pub get_below : (targets : List Target) (k : ℕ) (t : Target) → slice_get targets k ≡ Some t → k < length targets
get_below [] k t at = cc
get_below (x ∷ targets) zero t at = omega arith
get_below (x ∷ targets) (suc k) t at = omega (arith, get_below targets k t at)

pub stop_receivers : (k : ℕ) (targets : List Target) → receivers_of (stop_at k targets) ≡ receivers_of targets
stop_receivers k [] = refl
stop_receivers zero (t ∷ targets) = refl
stop_receivers (suc k) (t ∷ targets) = ap (λ ts. t.to ∷ ts) (stop_receivers k targets)

pub finish_receivers : (k : ℕ) (targets : List Target) → receivers_of (finish_at k targets) ≡ receivers_of targets
finish_receivers k [] = refl
finish_receivers zero (t ∷ targets) = refl
finish_receivers (suc k) (t ∷ targets) = ap (λ ts. t.to ∷ ts) (finish_receivers k targets)

stop_length : (k : ℕ) (targets : List Target) → length (stop_at k targets) ≡ length targets
stop_length k [] = refl
stop_length zero (t ∷ targets) = refl
stop_length (suc k) (t ∷ targets) = ap suc (stop_length k targets)

finish_length : (k : ℕ) (targets : List Target) → length (finish_at k targets) ≡ length targets
finish_length k [] = refl
finish_length zero (t ∷ targets) = refl
finish_length (suc k) (t ∷ targets) = ap suc (finish_length k targets)

-- after a write at a place a receiver is the written one, or one of those before
stop_get : (k : ℕ) (targets : List Target) (place : ℕ) (t : Target) → slice_get (stop_at k targets) place ≡ Some t
    → ((place ≢ k) × (slice_get targets place ≡ Some t)) ⊎ ((u : Target) × (place ≡ k) × (slice_get targets place ≡ Some u) × (t ≡ record u { stopped = true }))
stop_get k [] place t at = cc
stop_get zero (x ∷ targets) zero t at = let one : record x { stopped = true } ≡ t = cc in inr (x, refl, refl, sym one)
stop_get zero (x ∷ targets) (suc place) t at = inl (λ e. omega (arith, e), at)
stop_get (suc k) (x ∷ targets) zero t at = inl (λ e. omega (arith, e), at)
stop_get (suc k) (x ∷ targets) (suc place) t at = elim (stop_get k targets place t at) [
  | inl w ↦ inl (λ e. w.0 (omega (arith, e)), w.1)
  | inr w ↦ inr (w.0, ap suc w.1, w.2, w.3)
]

finish_get : (k : ℕ) (targets : List Target) (place : ℕ) (t : Target) → slice_get (finish_at k targets) place ≡ Some t
    → ((place ≢ k) × (slice_get targets place ≡ Some t)) ⊎ ((u : Target) × (place ≡ k) × (slice_get targets place ≡ Some u) × (t ≡ record u { finished = true }))
finish_get k [] place t at = cc
finish_get zero (x ∷ targets) zero t at = let one : record x { finished = true } ≡ t = cc in inr (x, refl, refl, sym one)
finish_get zero (x ∷ targets) (suc place) t at = inl (λ e. omega (arith, e), at)
finish_get (suc k) (x ∷ targets) zero t at = inl (λ e. omega (arith, e), at)
finish_get (suc k) (x ∷ targets) (suc place) t at = elim (finish_get k targets place t at) [
  | inl w ↦ inl (λ e. w.0 (omega (arith, e)), w.1)
  | inr w ↦ inr (w.0, ap suc w.1, w.2, w.3)
]

-- ---- chunks of rows

filter_push : {A : Type 0} (p : A → Bool) (xs : List A) (x : A) → filter p (xs ++ x ∷ []) ≡ filter p xs ++ (cond (p x) (x ∷ []) [])
filter_push p [] x = refl
filter_push p (y ∷ xs) x = by (p y) (filter_push p xs x)
  where
    by : (b : Bool) → filter p (xs ++ x ∷ []) ≡ filter p xs ++ (cond (p x) (x ∷ []) []) → cond b (y ∷ filter p (xs ++ x ∷ [])) (filter p (xs ++ x ∷ [])) ≡ cond b (y ∷ filter p xs) (filter p xs) ++ cond (p x) (x ∷ []) []
    by true same = ap (λ l. y ∷ l) same
    by false same = same

cut_if : (packet : ℕ) (row : Line) (b : Bool) → cut packet (cond b (row ∷ []) []) ≡ cond b (row_chunks packet row) []
cut_if packet row true = append-nil (row_chunks packet row)
cut_if packet row false = refl

pub cut_more : (route : Route) (packet count place : ℕ) (rows : List Line) (row : Line)
    → cut packet (routed route count place (rows ++ row ∷ [])) ≡ cut packet (routed route count place rows) ++ (cond (is_routed route count place row) (row_chunks packet row) [])
unfolding routed
cut_more route packet count place rows row =
    ap (cut packet) (filter_push (is_routed route count place) rows row) ∙ flat_map-append (row_chunks packet) (filter (is_routed route count place) rows) (cond (is_routed route count place row) (row ∷ []) [])
    ∙ ap (λ l. cut packet (filter (is_routed route count place) rows) ++ l) (cut_if packet row (is_routed route count place row))

-- ---- readings of a step

puts_more : (motion : ℕ) (to : ℤ) (steps : List Step) (s : Step) → put_on motion to (steps ++ s ∷ []) ≡ put_on motion to steps ++ chunk_in motion to s
puts_more motion to steps s = flat_push (chunk_in motion to) steps s

stopped_more : (motion : ℕ) (to : ℤ) (steps : List Step) (s : Step) → stopped_on motion to (steps ++ s ∷ []) ≡ (stopped_on motion to steps || stops motion to s)
stopped_more motion to steps s = any_push (stops motion to) steps s

finished_more : (motion : ℕ) (to : ℤ) (steps : List Step) (s : Step) → finished_on motion to (steps ++ s ∷ []) ≡ (finished_on motion to steps || finishes motion to s)
finished_more motion to steps s = any_push (finishes motion to) steps s

-- the step says nothing of the connection to this receiver
pub record IsMute (motion : ℕ) (to : ℤ) (s : Step) : Type 0 where
  pub chunk : chunk_in motion to s ≡ []
  pub stop : stops motion to s ≡ false
  pub finish : finishes motion to s ≡ false

reach_mute : (route : Route) (motion packet count place : ℕ) (t : Target) (w : Work) (rows : List Line) (steps : List Step) (s : Step) → IsMute motion t.to s → Reaches route motion packet count place t w rows steps
    → Reaches route motion packet count place t w rows (steps ++ s ∷ [])
reach_mute route motion packet count place t w rows steps s mute h =
    let same = puts_more motion t.to steps s ∙ ap (λ l. put_on motion t.to steps ++ l) mute.chunk ∙ append-nil (put_on motion t.to steps) in
    record {
      stopped = h.stopped ∙ sym (stopped_more motion t.to steps s ∙ ap (λ b. stopped_on motion t.to steps || b) mute.stop ∙ or_none (stopped_on motion t.to steps));
      finished = h.finished ∙ sym (finished_more motion t.to steps s ∙ ap (λ b. finished_on motion t.to steps || b) mute.finish ∙ or_none (finished_on motion t.to steps));
      front = subst (λ l. IsPrefix l (cut packet (routed route count place rows))) (sym same) h.front;
      all = λ going. ap (λ l. l ++ left_at place w) same ∙ h.all going;
    }

-- ---- a step of no connection

pub sends_pass : (m : Sender) (steps : List Step) (s : Step) (rows : List Line) → ((to : ℤ) → IsMute m.motion to s) → Sends m steps rows → Sends m (steps ++ s ∷ []) rows
sends_pass m steps s rows mute h = record {
  ascend = h.ascend;
  each = λ place t at. reach_mute (route_by m.kind) m.motion m.packet (length m.targets) place t m.work rows steps s (mute t.to) (h.each place t at);
  open_ = h.open_;
}

-- a refusal but for Stopped
is_other : PortNo → Bool
is_other Stopped = false
is_other _ = true

and_false : (a : Bool) → (a && false) ≡ false
and_false true = refl
and_false false = refl

pub mute_refused : (motion : ℕ) (to : ℤ) (ask : PortAsk) (no_ : PortNo) → is_stopped (Refused no_) ≡ false → IsMute motion to (record { entry = record { ask = ask; reply = Refused no_ }; rows = [] })
mute_refused motion to ask no_ other = record { chunk = refl; stop = ap (λ b. b && sends_on motion to ask) other; finish = refl }

-- ---- the row in work

pub idle_left : (place : ℕ) (w : Work) → w.end ≡ 0 → left_at place w ≡ []
idle_left place w idle = ap (λ b. cond b (cond (nat_le w.at place) (pending w.chunk) [] ++ w.rest) []) (by (nat_le w.first place))
  where
    by : (b : Bool) → (b && nat_lt place w.end) ≡ false
    by true = le-ltb place w.end (omega (arith, idle))
    by false = refl

front_more : {A : Type 0} (xs ys more : List A) → IsPrefix xs ys → IsPrefix xs (ys ++ more)
front_more xs ys more (rest, is) = (rest ++ more, ap (λ l. l ++ more) is ∙ append_assoc xs rest more)

pub front_row : (route : Route) (packet count place : ℕ) (rows : List Line) (row : Line) (chunks : List (List ℕ)) → IsPrefix chunks (cut packet (routed route count place rows)) → IsPrefix chunks (cut packet (routed route count place (rows ++ row ∷ [])))
front_row route packet count place rows row chunks front =
    subst (IsPrefix chunks) (sym (cut_more route packet count place rows row)) (front_more chunks (cut packet (routed route count place rows)) (cond (is_routed route count place row) (row_chunks packet row) []) front)

-- a row is handed in
pub sends_begin : (m : Sender) (steps : List Step) (rows : List Line) (row : Line) (w : Work) → Begins (route_by m.kind) m.packet m.targets row m.work w → Sends m steps rows → Sends (record m { work = w }) steps (handed m.work rows row)
sends_begin m steps rows row w (goes_on busy) h =
    subst (Sends m steps) (sym (ap (λ b. cond b rows (rows ++ row ∷ [])) (lt-ltb 0 m.work.end busy))) h
sends_begin m steps rows row w (begins new idle left) h =
    let route = route_by m.kind in
    let count = length m.targets in
    subst (Sends (record m { work = new }) steps) (sym (ap (λ b. cond b rows (rows ++ row ∷ [])) (le-ltb 0 m.work.end (omega (arith, idle)))))
    (record {
      ascend = h.ascend;
      each = λ place t at.
          let r = h.each place t at in
          let more = cut_more route m.packet count place rows row in
          record {
            stopped = r.stopped;
            finished = r.finished;
            front = subst (IsPrefix (put_on m.motion t.to steps)) (sym more) (front_more (put_on m.motion t.to steps) (cut m.packet (routed route count place rows)) (cond (is_routed route count place row) (row_chunks m.packet row) []) r.front);
            all = λ going.
                let was : put_on m.motion t.to steps ≡ cut m.packet (routed route count place rows) = sym (append-nil (put_on m.motion t.to steps)) ∙ ap (λ l. put_on m.motion t.to steps ++ l) (sym (idle_left place m.work idle)) ∙ r.all going in
                ap (λ l. put_on m.motion t.to steps ++ l) (left place (get_below m.targets place t at)) ∙ ap (λ l. l ++ cond (is_routed route count place row) (row_chunks m.packet row) []) was ∙ sym more;
          };
      open_ = h.open_;
    })

-- the same is to be put as was
pub sends_same : (m : Sender) (steps : List Step) (rows : List Line) (w : Work) → LeavesSame m.targets m.work w → Sends m steps rows → Sends (record m { work = w }) steps rows
sends_same m steps rows w same h = record {
  ascend = h.ascend;
  each = λ place t at.
      let r = h.each place t at in
      record {
        stopped = r.stopped;
        finished = r.finished;
        front = r.front;
        all = λ going. ap (λ l. put_on m.motion t.to steps ++ l) (same place (t, at, going)) ∙ r.all going;
      };
  open_ = h.open_;
}

-- nothing is left to be put
pub served : (m : Sender) (steps : List Step) (rows : List Line) → ((place : ℕ) → IsOpen m.targets place → left_at place m.work ≡ []) → Sends m steps rows → AreServed m steps rows
served m steps rows none h = λ place t at going. sym (append-nil (put_on m.motion t.to steps)) ∙ ap (λ l. put_on m.motion t.to steps ++ l) (sym (none place (t, at, going))) ∙ (h.each place t at).all going

pub sends_reset : (m : Sender) (steps : List Step) (rows : List Line) → ((place : ℕ) → IsOpen m.targets place → left_at place m.work ≡ []) → Sends m steps rows → Sends (record m { work = reset m.work }) steps rows
sends_reset m steps rows none h = sends_same m steps rows (reset m.work) (λ place open_. idle_left place (reset m.work) refl ∙ sym (none place open_)) h

-- ---- a chunk that was put

on_own : (motion : ℕ) (to : ℤ) → ((motion == motion) && int_eq to to) ≡ true
on_own motion to = ap (λ b. b && int_eq to to) (eqb_same motion) ∙ int_same to to refl

on_other : (motion : ℕ) (a b : ℤ) → (a ≡ b → ⊥) → ((motion == motion) && int_eq a b) ≡ false
on_other motion a b ne = ap (λ t. t && int_eq a b) (eqb_same motion) ∙ int_differ a b ne

unfoldable pub put_step : ℕ → ℤ → List ℕ → PortReply → Step
put_step motion to chunk reply = record { entry = record { ask = Put motion to chunk; reply = reply }; rows = [] }

put_else : (motion : ℕ) (a to : ℤ) (chunk : List ℕ) (reply : PortReply) → (a ≡ to → ⊥) → IsMute motion to (record { entry = record { ask = Put motion a chunk; reply = reply }; rows = [] })
put_else motion a to chunk reply ne = record {
  chunk = ap (λ c. cond (is_done reply) c []) (ap (λ b. cond b (chunk ∷ []) []) (on_other motion a to ne)) ∙ either (is_done reply);
  stop = ap (λ b. is_stopped reply && b) (on_other motion a to ne) ∙ and_false (is_stopped reply);
  finish = and_false (is_done reply);
}
  where
    none : List (List ℕ)
    none = []

    either : (b : Bool) → cond b none none ≡ none
    either true = refl
    either false = refl

-- what is left after the chunk was put to the receiver at the place
pub left_own : (w : Work) → goes_to w.at w ≡ true → w.chunk ≢ [] → left_at w.at w ≡ w.chunk ∷ left_at w.at (record w { at = suc w.at })
left_own w within some_ =
    ap (λ b. cond b (cond (nat_le w.at w.at) (pending w.chunk) [] ++ w.rest) []) within ∙ ap (λ b. cond b (pending w.chunk) [] ++ w.rest) (le-leb w.at w.at (omega arith)) ∙ ap (λ l. l ++ w.rest) (one w.chunk some_)
    ∙ ap (λ l. w.chunk ∷ l) (sym (ap (λ b. cond b (cond (nat_le (suc w.at) w.at) (pending w.chunk) [] ++ w.rest) []) within ∙ ap (λ b. cond b (pending w.chunk) [] ++ w.rest) (lt-leb (suc w.at) w.at (omega arith))))
  where
    one : (chunk : List ℕ) → chunk ≢ [] → pending chunk ≡ chunk ∷ []
    one [] ne = absurd (ne refl)
    one (b ∷ chunk) ne = refl

left_else : (w : Work) (place : ℕ) → place ≢ w.at → left_at place (record w { at = suc w.at }) ≡ left_at place w
left_else w place ne = ap (λ b. cond (goes_to place w) (cond b (pending w.chunk) [] ++ w.rest) []) (by (nat_le w.at place) refl)
  where
    by : (b : Bool) → nat_le w.at place ≡ b → nat_le (suc w.at) place ≡ nat_le w.at place
    by true is = le-leb (suc w.at) place (let le = leb-true w.at place is in omega (arith, le, ne)) ∙ sym is
    by false is = lt-leb (suc w.at) place (let lt = leb-false w.at place is in omega (arith, lt)) ∙ sym is

pub sends_put : (m : Sender) (steps : List Step) (rows : List Line) (t : Target) → slice_get m.targets m.work.at ≡ Some t → t.stopped ≡ false → goes_to m.work.at m.work ≡ true → m.work.chunk ≢ [] → Sends m steps rows
    → Sends (record m { work = record m.work { at = suc m.work.at } }) (steps ++ put_step m.motion t.to m.work.chunk Did ∷ []) rows
unfolding put_step
sends_put m steps rows t at going within some_ h =
    let w = m.work in
    let s : Step = record { entry = record { ask = Put m.motion t.to w.chunk; reply = Did }; rows = [] } in
    record {
      ascend = h.ascend;
      each = λ place u here. by place u here (cases_eq place w.at);
      open_ = h.open_;
    }
  where
    same_target : (u : Target) → slice_get m.targets m.work.at ≡ Some u → u ≡ t
    same_target u here = let e : Some u ≡ Some t = sym here ∙ at in cc

    own : (r : Reaches (route_by m.kind) m.motion m.packet (length m.targets) m.work.at t m.work rows steps)
        → Reaches (route_by m.kind) m.motion m.packet (length m.targets) m.work.at t (record m.work { at = suc m.work.at }) rows (steps ++ record { entry = record { ask = Put m.motion t.to m.work.chunk; reply = Did }; rows = [] } ∷ [])
    own r =
        let s : Step = record { entry = record { ask = Put m.motion t.to m.work.chunk; reply = Did }; rows = [] } in
        let chunk : chunk_in m.motion t.to s ≡ m.work.chunk ∷ [] = ap (λ b. cond b (m.work.chunk ∷ []) []) (on_own m.motion t.to) in
        let puts : put_on m.motion t.to (steps ++ s ∷ []) ≡ put_on m.motion t.to steps ++ m.work.chunk ∷ [] = puts_more m.motion t.to steps s ∙ ap (λ l. put_on m.motion t.to steps ++ l) chunk in
        let left = left_own m.work within some_ in
        let more = left_at m.work.at (record m.work { at = suc m.work.at }) in
        let all : put_on m.motion t.to (steps ++ s ∷ []) ++ more ≡ cut m.packet (routed (route_by m.kind) (length m.targets) m.work.at rows) =
        ap (λ l. l ++ more) puts ∙ append_assoc (put_on m.motion t.to steps) (m.work.chunk ∷ []) more ∙ ap (λ l. put_on m.motion t.to steps ++ l) (sym left) ∙ r.all going in
        record {
          stopped = r.stopped ∙ sym (stopped_more m.motion t.to steps s ∙ or_none (stopped_on m.motion t.to steps));
          finished = r.finished ∙ sym (finished_more m.motion t.to steps s ∙ or_none (finished_on m.motion t.to steps));
          front = (more, sym all);
          all = λ _. all;
        }

    by : (place : ℕ) (u : Target) → slice_get m.targets place ≡ Some u → (place ≡ m.work.at) ⊎ (place ≢ m.work.at)
        → Reaches (route_by m.kind) m.motion m.packet (length m.targets) place u (record m.work { at = suc m.work.at }) rows (steps ++ record { entry = record { ask = Put m.motion t.to m.work.chunk; reply = Did }; rows = [] } ∷ [])
    by place u here (inl is) =
        let there : slice_get m.targets m.work.at ≡ Some u = subst (λ k. slice_get m.targets k ≡ Some u) is here in
        let one = same_target u there in
        subst (λ k. Reaches (route_by m.kind) m.motion m.packet (length m.targets) k u (record m.work { at = suc m.work.at }) rows (steps ++ record { entry = record { ask = Put m.motion t.to m.work.chunk; reply = Did }; rows = [] } ∷ [])) (sym is)
        (subst (λ x. Reaches (route_by m.kind) m.motion m.packet (length m.targets) m.work.at x (record m.work { at = suc m.work.at }) rows (steps ++ record { entry = record { ask = Put m.motion t.to m.work.chunk; reply = Did }; rows = [] } ∷ [])) (sym one)
        (own (h.each m.work.at t at)))
    by place u here (inr ne) =
        let s : Step = record { entry = record { ask = Put m.motion t.to m.work.chunk; reply = Did }; rows = [] } in
        let mute = put_else m.motion t.to u.to m.work.chunk Did (λ same. to_apart m.targets place m.work.at u t h.ascend here at ne (sym same)) in
        let r = reach_mute (route_by m.kind) m.motion m.packet (length m.targets) place u m.work rows steps s mute (h.each place u here) in
        record { stopped = r.stopped; finished = r.finished; front = r.front; all = λ open_. ap (λ l. put_on m.motion u.to (steps ++ s ∷ []) ++ l) (left_else m.work place ne) ∙ r.all open_ }

-- ---- a receiver that stopped

pub on_connection : (motion : ℕ) (to : ℤ) (ask : PortAsk) → Type 0
on_connection motion to ask = ((a : ℤ) → sends_on motion a ask ≡ int_eq to a) × ((a : ℤ) → (chunk : List (List ℕ)) × (chunk_of motion a ask ≡ chunk))

unfoldable pub stop_step : PortAsk → Step
stop_step ask = record { entry = record { ask = ask; reply = Refused Stopped }; rows = [] }

sends_on_put : (motion : ℕ) (to a : ℤ) (chunk : List ℕ) → sends_on motion a (Put motion to chunk) ≡ int_eq to a
sends_on_put motion to a chunk = ap (λ b. b && int_eq to a) (eqb_same motion)

sends_on_finish : (motion : ℕ) (to a : ℤ) → sends_on motion a (Finish motion to) ≡ int_eq to a
sends_on_finish motion to a = ap (λ b. b && int_eq to a) (eqb_same motion)

stop_else : (motion : ℕ) (to a : ℤ) (ask : PortAsk) → ((b : ℤ) → sends_on motion b ask ≡ int_eq to b) → (to ≡ a → ⊥) → IsMute motion a (record { entry = record { ask = ask; reply = Refused Stopped }; rows = [] })
stop_else motion to a ask on ne = record { chunk = refl; stop = on a ∙ int_differ to a ne; finish = refl }

reach_stop : (route : Route) (motion packet count place : ℕ) (t : Target) (w : Work) (rows : List Line) (steps : List Step) (ask : PortAsk) → sends_on motion t.to ask ≡ true → Reaches route motion packet count place t w rows steps
    → Reaches route motion packet count place (record t { stopped = true }) w rows (steps ++ record { entry = record { ask = ask; reply = Refused Stopped }; rows = [] } ∷ [])
reach_stop route motion packet count place t w rows steps ask on h =
    let s : Step = record { entry = record { ask = ask; reply = Refused Stopped }; rows = [] } in
    let same = puts_more motion t.to steps s ∙ append-nil (put_on motion t.to steps) in
    record {
      stopped = sym (stopped_more motion t.to steps s ∙ ap (λ b. stopped_on motion t.to steps || b) on ∙ or_end (stopped_on motion t.to steps));
      finished = h.finished ∙ sym (finished_more motion t.to steps s ∙ or_none (finished_on motion t.to steps));
      front = subst (λ l. IsPrefix l (cut packet (routed route count place rows))) (sym same) h.front;
      all = λ going. cc;
    }

pub sends_stop : (m : Sender) (steps : List Step) (rows : List Line) (k : ℕ) (t : Target) (ask : PortAsk) → slice_get m.targets k ≡ Some t → ((b : ℤ) → sends_on m.motion b ask ≡ int_eq t.to b) → Sends m steps rows
    → Sends (record m { targets = stop_at k m.targets }) (steps ++ stop_step ask ∷ []) rows
unfolding stop_step
sends_stop m steps rows k t ask at on h = record {
  ascend = subst Ascends (sym (stop_receivers k m.targets)) h.ascend;
  each = λ place u here. subst (λ n. Reaches (route_by m.kind) m.motion m.packet n place u m.work rows (steps ++ record { entry = record { ask = ask; reply = Refused Stopped }; rows = [] } ∷ [])) (sym (stop_length k m.targets)) (by place u (stop_get k m.targets place u here));
  open_ = λ ending place u here. elim (stop_get k m.targets place u here) [
    | inl w ↦ h.open_ ending place u w.1
    | inr w ↦ ap (λ (x : Target). x.finished) w.3 ∙ h.open_ ending place w.0 w.2
  ];
}
  where
    by : (place : ℕ) (u : Target) → ((place ≢ k) × (slice_get m.targets place ≡ Some u)) ⊎ ((v : Target) × (place ≡ k) × (slice_get m.targets place ≡ Some v) × (u ≡ record v { stopped = true }))
        → Reaches (route_by m.kind) m.motion m.packet (length m.targets) place u m.work rows (steps ++ record { entry = record { ask = ask; reply = Refused Stopped }; rows = [] } ∷ [])
    by place u (inl w) =
        reach_mute (route_by m.kind) m.motion m.packet (length m.targets) place u m.work rows steps (record { entry = record { ask = ask; reply = Refused Stopped }; rows = [] })
        (stop_else m.motion t.to u.to ask on (λ same. to_apart m.targets place k u t h.ascend w.1 at w.0 (sym same))) (h.each place u w.1)
    by place u (inr (v, is, here, made)) =
        let there : Some v ≡ Some t = sym here ∙ ap (slice_get m.targets) is ∙ at in
        let one : v ≡ t = cc in
        subst (λ x. Reaches (route_by m.kind) m.motion m.packet (length m.targets) place x m.work rows (steps ++ record { entry = record { ask = ask; reply = Refused Stopped }; rows = [] } ∷ [])) (sym made)
        (reach_stop (route_by m.kind) m.motion m.packet (length m.targets) place v m.work rows steps ask (on v.to ∙ int_same t.to v.to (ap (λ (x : Target). x.to) (sym one))) (h.each place v here))

pub stop_by_put : (m : Sender) (steps : List Step) (rows : List Line) (k : ℕ) (t : Target) (chunk : List ℕ) → slice_get m.targets k ≡ Some t → Sends m steps rows
    → Sends (record m { targets = stop_at k m.targets }) (steps ++ stop_step (Put m.motion t.to chunk) ∷ []) rows
stop_by_put m steps rows k t chunk at h = sends_stop m steps rows k t (Put m.motion t.to chunk) at (λ b. sends_on_put m.motion t.to b chunk) h

pub stop_by_finish : (m : Sender) (steps : List Step) (rows : List Line) (k : ℕ) (t : Target) → slice_get m.targets k ≡ Some t → Sends m steps rows
    → Sends (record m { targets = stop_at k m.targets }) (steps ++ stop_step (Finish m.motion t.to) ∷ []) rows
stop_by_finish m steps rows k t at h = sends_stop m steps rows k t (Finish m.motion t.to) at (λ b. sends_on_finish m.motion t.to b) h

-- ---- a stream that was finished

unfoldable pub finish_step : ℕ → ℤ → Step
finish_step motion to = record { entry = record { ask = Finish motion to; reply = Did }; rows = [] }

finish_else : (motion : ℕ) (a to : ℤ) → (a ≡ to → ⊥) → IsMute motion to (record { entry = record { ask = Finish motion a; reply = Did }; rows = [] })
finish_else motion a to ne = record { chunk = refl; stop = refl; finish = on_other motion a to ne }

reach_finish : (route : Route) (motion packet count place : ℕ) (t : Target) (w : Work) (rows : List Line) (steps : List Step) → Reaches route motion packet count place t w rows steps
    → Reaches route motion packet count place (record t { finished = true }) w rows (steps ++ record { entry = record { ask = Finish motion t.to; reply = Did }; rows = [] } ∷ [])
reach_finish route motion packet count place t w rows steps h =
    let s : Step = record { entry = record { ask = Finish motion t.to; reply = Did }; rows = [] } in
    let same = puts_more motion t.to steps s ∙ append-nil (put_on motion t.to steps) in
    record {
      stopped = h.stopped ∙ sym (stopped_more motion t.to steps s ∙ or_none (stopped_on motion t.to steps));
      finished = sym (finished_more motion t.to steps s ∙ ap (λ b. finished_on motion t.to steps || b) (on_own motion t.to) ∙ or_end (finished_on motion t.to steps));
      front = subst (λ l. IsPrefix l (cut packet (routed route count place rows))) (sym same) h.front;
      all = λ going. ap (λ l. l ++ left_at place w) same ∙ h.all going;
    }

pub sends_finish : (m : Sender) (steps : List Step) (rows : List Line) (k : ℕ) (t : Target) → slice_get m.targets k ≡ Some t → Sends m steps rows
    → Sends (record m { targets = finish_at k m.targets; ending = true }) (steps ++ finish_step m.motion t.to ∷ []) rows
unfolding finish_step
sends_finish m steps rows k t at h = record {
  ascend = subst Ascends (sym (finish_receivers k m.targets)) h.ascend;
  each = λ place u here. subst (λ n. Reaches (route_by m.kind) m.motion m.packet n place u m.work rows (steps ++ record { entry = record { ask = Finish m.motion t.to; reply = Did }; rows = [] } ∷ [])) (sym (finish_length k m.targets)) (by place u (finish_get k m.targets place u here));
  open_ = λ ending. cc;
}
  where
    by : (place : ℕ) (u : Target) → ((place ≢ k) × (slice_get m.targets place ≡ Some u)) ⊎ ((v : Target) × (place ≡ k) × (slice_get m.targets place ≡ Some v) × (u ≡ record v { finished = true }))
        → Reaches (route_by m.kind) m.motion m.packet (length m.targets) place u m.work rows (steps ++ record { entry = record { ask = Finish m.motion t.to; reply = Did }; rows = [] } ∷ [])
    by place u (inl w) =
        reach_mute (route_by m.kind) m.motion m.packet (length m.targets) place u m.work rows steps (record { entry = record { ask = Finish m.motion t.to; reply = Did }; rows = [] })
        (finish_else m.motion t.to u.to (λ same. to_apart m.targets place k u t h.ascend w.1 at w.0 (sym same))) (h.each place u w.1)
    by place u (inr (v, is, here, made)) =
        let there : Some t ≡ Some v = sym at ∙ ap (slice_get m.targets) (sym is) ∙ here in
        let one : t ≡ v = cc in
        subst (λ x. Reaches (route_by m.kind) m.motion m.packet (length m.targets) place x m.work rows (steps ++ record { entry = record { ask = Finish m.motion t.to; reply = Did }; rows = [] } ∷ [])) (sym made)
        (subst (λ x. Reaches (route_by m.kind) m.motion m.packet (length m.targets) place (record v { finished = true }) m.work rows (steps ++ record { entry = record { ask = Finish m.motion x.to; reply = Did }; rows = [] } ∷ [])) (sym one)
        (reach_finish (route_by m.kind) m.motion m.packet (length m.targets) place v m.work rows steps (h.each place v here)))

-- it was asked to end
pub sends_ending : (m : Sender) (steps : List Step) (rows : List Line) → Sends m steps rows → Sends (record m { ending = true }) steps rows
sends_ending m steps rows h = record { ascend = h.ascend; each = h.each; open_ = λ ending. cc }
