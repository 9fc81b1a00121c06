-- A world stands for one turn more.
use Rattle.std.proofs.Common.{◌≡◌, ◌⊎◌, ℕ, ◌==◌, ℤ, List, [], ◌∷◌, ◌++◌, length, set, Bool, true, false, ◌&&◌, cond, Option, Some, refl, ap, sym, ◌∙◌, subst, inl, inr, append-nil, slice_get, length-set}
use Rattle.std.specs.Ordering.{int_eq}
use Rattle.std.proofs.lemmas.Bool.Decides.{eqb_tells, Decides-int_eq}
use Rattle.ic_base.specs.declared.keys.ConnEnd.{ConnEnd}
use Rattle.ic_law.specs.declared.history.Entry.{Entry}
use Rattle.ic_law.specs.Streams.{node_of}
use Rattle.ic_law.proofs.Lists.{flat_map-push}
use Rattle.pl_runs.specs.Runs.{Course}
use Rattle.pl_runs.specs.Logs.{log_of, ends_of}
use Rattle.pl_runs.specs.Distributed.{Query, Courses, worker_at}
use Rattle.pl_runs.proofs.Apart.{slices_are_apart}
use Rattle.ic_port.specs.Noding.{Noding}
use Rattle.ic_desk.specs.Own.{own_ends}
use Rattle.ic_desk.specs.Sitting.{AreApart}
use Rattle.ic_desk.specs.Laws.{OwnAreThePlans}
use Rattle.ex_slice.specs.declared.slice.Slice.{Slice}
use Rattle.ex_slice.specs.declared.stage.Stage.TheVariants as stages
use Rattle.ex_slice.specs.Working.{Working}
use Rattle.ex_slice.specs.Slicing.{working}
use Rattle.gd_world.specs.declared.step.Step.{Step}
use Rattle.gd_world.specs.declared.step.Step.TheVariants as step
use Rattle.gd_world.specs.declared.seat.Seat.{Seat}
use Rattle.gd_world.specs.declared.world.World.{World}
use Rattle.gd_world.specs.Doings.{Answer, at_of}
use Rattle.gd_world.specs.Events.{Event, turns, node_in, segment_at, entries_in, entry_at, history_in, event_of}
use Rattle.gd_world.specs.Sessions.{Sessional, Recalls}
use Rattle.gd_world.specs.Turns.{Taken, taken_in, turns_of, logs_turn, logged_by}
use Rattle.gd_world.specs.Workers.{AreSeats, WorkerStands, worker_in, ends_in}
use Rattle.gd_world.specs.Worlds.{Account, all_events, running, IsReached, Stands}
use Rattle.gd_world.specs.Steps.{Goes, TurnsAt}
use Rattle.gd_world.specs.Inside.{Enters, Stays, Sat, TakesTurn, MaySit, marked, place_in}
use Rattle.gd_world.proofs.Places.{get_set, same_some, eqb_same, int_same}
use Rattle.gd_world.proofs.Recalling.{entry_here, entry_there, place_same, recalls_on, session_on}
use Rattle.gd_world.proofs.Marking.{stays_reached, marks_same, left_on}
use Rattle.gd_world.proofs.Standing.{SameQuery, joined, log_append}
use Rattle.gd_world.proofs.Meeting.{own_is}
use Rattle.gd_world.proofs.Settling.{TurnEntry, turn_entry, sat_by, added_place, worker_on}

-- ---- seats

abbrev pub is_seat : Seat → ℕ → ℤ → Bool
is_seat seat slice at = (seat.slice == slice) && int_eq seat.at at

seat_same : (seat : Seat) → is_seat seat seat.slice seat.at ≡ true
seat_same seat = ap (λ b. b && int_eq seat.at seat.at) (eqb_same seat.slice) ∙ int_same seat.at

seat_apart : (seat other : Seat) → (seat ≡ other → ⊥) → is_seat seat other.slice other.at ≡ false
seat_apart seat other apart = by (seat.slice == other.slice) (int_eq seat.at other.at) refl refl
  where
    by : (x y : Bool) → (seat.slice == other.slice) ≡ x → int_eq seat.at other.at ≡ y → is_seat seat other.slice other.at ≡ false
    by true true p q =
        let slices : seat.slice ≡ other.slice = elim (eqb_tells seat.slice other.slice) [ inl w ↦ w.1 | inr w ↦ absurd (let e = w.0 in cc (e, p)) ] in
        let ats : seat.at ≡ other.at = (Decides-int_eq seat.at other.at).0 q in
        absurd (apart (ap (λ s. record { slice = s; at = seat.at }) slices ∙ ap (λ z. record { slice = other.slice; at = z }) ats))
    by true false p q = ap (λ b. b && int_eq seat.at other.at) p ∙ q
    by false y p q = ap (λ b. b && int_eq seat.at other.at) p

-- the workers of two slices at one segment are apart
slices_apart : (q : Query) (seat other : Seat) → other.at ≡ seat.at → (seat.slice ≡ other.slice → ⊥) → AreApart (ends_in q seat) (ends_in q other)
slices_apart q seat other ats differ =
    subst (λ z. AreApart (ends_in q seat) (ends_of (worker_at q other.slice z) q.session q.number)) (sym ats)
    (let share = slices_are_apart (worker_in q seat) other.slice q.session q.number differ in record { sent = share.sent; heard = share.heard; taken = share.taken })

-- ---- the node's ends are the worker's, or its slice is done

abbrev pub IsOwn : List ConnEnd → List ConnEnd → Working → Type 0
IsOwn own ends x = (own ≡ ends) ⊎ (x.stage ≡ stages.Done)

others_stay : (own ends others : List ConnEnd) (old new : Working) (answer : Answer) (a b : Noding) → IsOwn own ends old → Sat own old new answer a b → TurnEntry own a b → AreApart ends others
    → log_of others b.entries ≡ log_of others a.entries
others_stay own ends others old new answer a b (inl same) sat entry apart = entry.others others (subst (λ l. AreApart l others) (sym same) apart)
others_stay own ends others old new answer a b (inr done) sat entry apart = ap (λ (n : Noding). log_of others n.entries) (sat.over done).2

-- ---- the event of a turn

-- the entry of a turn that was taken
abbrev pub entry_of : (answer : Answer) (at : ℤ) (number : ℕ) (old new : Working) (a b : Sessional) → TakesTurn answer at number old new a b → Option Entry
entry_of answer at number old new a b t = (turn_entry (own_ends t.node.ends number) t.node t.now t.sat.node).entry

abbrev pub turn_event : (answer : Answer) (at : ℤ) (number : ℕ) (old new : Working) (a b : Sessional) → TakesTurn answer at number old new a b → Event
turn_event answer at number old new a b t = record {
  did = record { step = step.Turn number at; turned = Some answer; entry = place_in t.node (entry_of answer at number old new a b t) };
  entry = entry_of answer at number old new a b t;
}

module _ (answer : Answer) (at : ℤ) (number : ℕ) (old new : Working) (a b : Sessional) (t : TakesTurn answer at number old new a b) where
  abbrev of_turn : TurnEntry (own_ends t.node.ends number) t.node t.now
  of_turn = turn_entry (own_ends t.node.ends number) t.node t.now t.sat.node

  abbrev pub turn_enters : Enters Stays at (step.Turn number at) (Some answer) (entry_of answer at number old new a b t) a b
  turn_enters = record {
    node = t.node;
    now = t.now;
    back = t.back;
    here = t.here;
    place = of_turn.place;
    grown = of_turn.grown;
    goes = (of_turn.query, of_turn.ends_are);
    nodes = t.nodes;
    past =
        t.past
        ∙ ap (λ p. a.past ++ record { step = step.Turn number at; turned = Some answer; entry = p } ∷ []) (added_place t.node (entry_of answer at number old new a b t) t.now.entries of_turn.grown);
  }

-- ---- the world

module _ (q : Query) (x : Account) (a b : World) (k : ℕ) (seat : Seat) (was now : Slice) (answer : Answer) (t : TakesTurn answer seat.at seat.slice (working was) (working now) a.session b.session) where
  abbrev entry : Option Entry
  entry = entry_of answer seat.at seat.slice (working was) (working now) a.session b.session t

  abbrev taken : Taken
  taken = record { answer = answer; entry = entry }

  abbrev e : Event
  e = event_of (all_events x) (step.Turn seat.slice seat.at) (Some answer) entry

  abbrev before : List Taken
  before = turns_of seat.slice seat.at x.events

  taken_here : taken_in seat.slice seat.at e ≡ taken ∷ []
  taken_here = ap (λ b. cond b (taken ∷ []) []) (seat_same seat)

  turns_here : turns_of seat.slice seat.at (x.events ++ e ∷ []) ≡ before ++ taken ∷ []
  turns_here = flat_map-push (taken_in seat.slice seat.at) x.events e ∙ ap (λ l. before ++ l) taken_here

  turns_there : (other : Seat) → (seat ≡ other → ⊥) → turns_of other.slice other.at x.events ≡ turns_of other.slice other.at (x.events ++ e ∷ [])
  turns_there other apart =
      sym (append-nil (turns_of other.slice other.at x.events)) ∙ ap (λ l. turns_of other.slice other.at x.events ++ l) (sym (ap (λ b. cond b (taken ∷ []) []) (seat_apart seat other apart)))
      ∙ sym (flat_map-push (taken_in other.slice other.at) x.events e)

  abbrev courses_with : Course → Courses
  courses_with c slice at = cond (is_seat seat slice at) c (x.courses slice at)

  node_is : Stands q x a → t.node.entries ≡ history_in (node_of seat.at) (all_events x)
  node_is stands = stands.recalls.histories (node_of seat.at) t.node t.here

  log_was : Stands q x a → slice_get a.seats.items k ≡ Some seat → log_of (ends_in q seat) t.node.entries ≡ logged_by (ends_in q seat) before
  log_was stands sits = ap (log_of (ends_in q seat)) (node_is stands) ∙ stands.logs k seat sits

  worker_now : Stands q x a → slice_get a.seats.items k ≡ Some seat → slice_get a.slices.items k ≡ Some was → IsOwn (own_ends t.node.ends seat.slice) (ends_in q seat) (working was)
      → (c : Course) × WorkerStands (worker_in q seat) (ends_in q seat) (working now) (before ++ taken ∷ []) c
  worker_now stands sits has own =
      worker_on (worker_in q seat) (ends_in q seat) (working was) (working now) answer t.node t.now entry before (x.courses seat.slice seat.at)
      (sat_by (own_ends t.node.ends seat.slice) (ends_in q seat) (working was) (working now) answer t.node t.now own t.sat) (of_turn answer seat.at seat.slice (working was) (working now) a.session b.session t).grown
      (log_was stands sits) (stands.workers k seat was sits has)

  history_more : (i : ℕ) → history_in i (all_events x ++ e ∷ []) ≡ history_in i (all_events x) ++ entry_at i e
  history_more i = flat_map-push (entry_at i) (all_events x) e

  -- its own log
  logs_here : Stands q x a → slice_get a.seats.items k ≡ Some seat → log_of (ends_in q seat) (history_in (node_of seat.at) (all_events x ++ e ∷ [])) ≡ logged_by (ends_in q seat) (turns_of seat.slice seat.at (x.events ++ e ∷ []))
  logs_here stands sits =
      ap (log_of (ends_in q seat)) (history_more (node_of seat.at) ∙ ap (λ l. history_in (node_of seat.at) (all_events x) ++ l) (entry_here (node_of seat.at) e refl))
      ∙ log_append (ends_in q seat) (history_in (node_of seat.at) (all_events x)) (entries_in entry) ∙ ap (λ l. l ++ log_of (ends_in q seat) (entries_in entry)) (stands.logs k seat sits)
      ∙ sym (ap (logged_by (ends_in q seat)) turns_here ∙ flat_map-push (logs_turn (ends_in q seat)) before taken)

  -- another's at its node
  log_beside : Stands q x a → IsOwn (own_ends t.node.ends seat.slice) (ends_in q seat) (working was) → (other : Seat) → other.at ≡ seat.at → (seat ≡ other → ⊥)
      → log_of (ends_in q other) (history_in (node_of other.at) (all_events x ++ e ∷ [])) ≡ log_of (ends_in q other) (history_in (node_of other.at) (all_events x))
  log_beside stands own other ats apart =
      let differ : seat.slice ≡ other.slice → ⊥ = λ s. apart (ap (λ n. record { slice = n; at = seat.at }) s ∙ ap (λ z. record { slice = other.slice; at = z }) (sym ats)) in
      let stay = others_stay (own_ends t.node.ends seat.slice) (ends_in q seat) (ends_in q other) (working was) (working now) answer t.node t.now own t.sat (of_turn answer seat.at seat.slice (working was) (working now) a.session b.session t) (slices_apart q seat other ats differ) in
      let here : node_in e ≡ node_of other.at = ap node_of (sym ats) in
      let is : t.node.entries ≡ history_in (node_of other.at) (all_events x) = node_is stands ∙ ap (λ z. history_in (node_of z) (all_events x)) (sym ats) in
      ap (log_of (ends_in q other))
      (history_more (node_of other.at) ∙ ap (λ l. history_in (node_of other.at) (all_events x) ++ l) (entry_here (node_of other.at) e here) ∙ ap (λ h. h ++ entries_in entry) (sym is)
      ∙ sym (of_turn answer seat.at seat.slice (working was) (working now) a.session b.session t).grown) ∙ stay ∙ ap (log_of (ends_in q other)) is

  -- another's anywhere
  log_there : Stands q x a → IsOwn (own_ends t.node.ends seat.slice) (ends_in q seat) (working was) → slice_get a.seats.items k ≡ Some seat
      → (l : ℕ) (other : Seat) → slice_get a.seats.items l ≡ Some other → (seat ≡ other → ⊥)
      → log_of (ends_in q other) (history_in (node_of other.at) (all_events x ++ e ∷ [])) ≡ log_of (ends_in q other) (history_in (node_of other.at) (all_events x))
  log_there stands own sits l other there apart =
      elim (eqb_tells (node_in e) (node_of other.at)) [
        | inl w ↦ log_beside stands own other (stands.seats.at l other there ∙ ap segment_at (sym w.1) ∙ sym (stands.seats.at k seat sits)) apart
        | inr w ↦
            ap (log_of (ends_in q other))
            (history_more (node_of other.at) ∙ ap (λ l. history_in (node_of other.at) (all_events x) ++ l) (entry_there (node_of other.at) e w.1) ∙ append-nil (history_in (node_of other.at) (all_events x)))
      ]

  pub turn_goes : Stands q x a → SameQuery a b → b.left ≡ a.left → slice_get a.seats.items k ≡ Some seat → slice_get a.slices.items k ≡ Some was → b.slices.items ≡ set a.slices.items k now
      → IsOwn (own_ends t.node.ends seat.slice) (ends_in q seat) (working was) → Goes q x e b
  turn_goes stands same left sits has slices own =
      let worker = worker_now stands sits has own in
      let enters = turn_enters answer seat.at seat.slice (working was) (working now) a.session b.session t in
      let seats_same : b.seats.items ≡ a.seats.items = ap (λ v. v.items) same.seats in
      let marks = marks_same a b (step.Turn seat.slice seat.at) entry left (λ z. refl) in
      let step_is = turns seat.slice seat.at answer entry (of_turn answer seat.at seat.slice (working was) (working now) a.session b.session t).call in
      let apart_at : (l : ℕ) (other : Seat) → slice_get a.seats.items l ≡ Some other → (k ≡ l → ⊥) → seat ≡ other → ⊥ =
      λ l other there ne is. ne (stands.seats.once k l other (sits ∙ ap Some is) there) in
      record {
        step = step_is;
        courses = courses_with worker.0;
        stands = record {
          plan = record {
            number_is = same.query ∙ stands.plan.number_is;
            schemas = ap (λ p. p.now.schemas) same.plan ∙ stands.plan.schemas;
            segments = ap (λ p. p.now.segments) same.plan ∙ stands.plan.segments;
            settings = ap (λ p. p.now.settings) same.plan ∙ stands.plan.settings;
            tree = ap (λ p. Rattle.pl_tree.specs.Trees.tree_in p.now.plan) same.plan ∙ stands.plan.tree;
          };
          session = session_on (running q) (step.Turn seat.slice seat.at) (Some answer) entry Stays a.session b.session q.session q.site.segments q.settings enters stands.session;
          recalls =
              subst (λ es. Recalls es b.session) (sym (joined x e (courses_with worker.0)))
              (recalls_on (running q) (step.Turn seat.slice seat.at) (Some answer) entry Stays a.session b.session (all_events x) enters stands.recalls step_is);
          reached = λ i n here.
              elim (get_set a.session.nodes (node_of seat.at) i t.now n (sym (ap (λ l. slice_get l i) t.nodes) ∙ here)) [
                | inl w ↦
                    subst (IsReached q i (x.events ++ e ∷ [])) (sym w.1)
                    (subst (λ j. IsReached q j (x.events ++ e ∷ []) t.now) w.0 (stays_reached q (node_of seat.at) x.events e t.node t.now refl refl enters.goes (stands.reached (node_of seat.at) t.node t.here)))
                | inr w ↦ stays_reached q i x.events e n n refl refl (refl, refl) (stands.reached i n w.1)
              ];
          order = seats_same ∙ stands.order;
          seats = subst (AreSeats q) (sym seats_same) stands.seats;
          count = ap length slices ∙ length-set a.slices.items k now ∙ stands.count ∙ sym (ap length seats_same);
          marks = marks.count ∙ stands.marks ∙ sym (ap length t.nodes ∙ length-set a.session.nodes (node_of seat.at) t.now);
          left = left_on q x a b e stands marks;
          workers = λ l other slice there is.
              let other_is = sym (ap (λ v. slice_get v l) seats_same) ∙ there in
              elim (get_set a.slices.items k l now slice (sym (ap (λ v. slice_get v l) slices) ∙ is)) [
                | inl w ↦
                    let seat_is : seat ≡ other = same_some seat other (sym sits ∙ ap (slice_get a.seats.items) w.0 ∙ other_is) in
                    subst (λ (o : Seat). WorkerStands (worker_in q o) (ends_in q o) (working slice) (turns_of o.slice o.at (x.events ++ e ∷ [])) (courses_with worker.0 o.slice o.at)) seat_is
                    (subst (λ (s : Slice). WorkerStands (worker_in q seat) (ends_in q seat) (working s) (turns_of seat.slice seat.at (x.events ++ e ∷ [])) (courses_with worker.0 seat.slice seat.at)) (sym w.1)
                    (subst (λ ts. WorkerStands (worker_in q seat) (ends_in q seat) (working now) ts (courses_with worker.0 seat.slice seat.at)) (sym turns_here)
                    (subst (λ c. WorkerStands (worker_in q seat) (ends_in q seat) (working now) (before ++ taken ∷ []) c) (sym (ap (λ b. cond b worker.0 (x.courses seat.slice seat.at)) (seat_same seat))) worker.1)))
                | inr w ↦
                    let apart = apart_at l other other_is w.0 in
                    subst (λ c. WorkerStands (worker_in q other) (ends_in q other) (working slice) (turns_of other.slice other.at (x.events ++ e ∷ [])) c) (sym (ap (λ b. cond b worker.0 (x.courses other.slice other.at)) (seat_apart seat other apart)))
                    (subst (λ ts. WorkerStands (worker_in q other) (ends_in q other) (working slice) ts (x.courses other.slice other.at)) (turns_there other apart) (stands.workers l other slice other_is w.1))
              ];
          logs = λ l other there.
              let other_is = sym (ap (λ v. slice_get v l) seats_same) ∙ there in
              ap (λ es. log_of (ends_in q other) (history_in (node_of other.at) es)) (joined x e (courses_with worker.0)) ∙
              elim (eqb_tells k l) [
                | inl w ↦
                    let seat_is : seat ≡ other = same_some seat other (sym sits ∙ ap (slice_get a.seats.items) w.1 ∙ other_is) in
                    subst (λ (o : Seat). log_of (ends_in q o) (history_in (node_of o.at) (all_events x ++ e ∷ [])) ≡ logged_by (ends_in q o) (turns_of o.slice o.at (x.events ++ e ∷ []))) seat_is (logs_here stands sits)
                | inr w ↦
                    let apart = apart_at l other other_is w.1 in
                    log_there stands own sits l other other_is apart ∙ stands.logs l other other_is ∙ ap (logged_by (ends_in q other)) (turns_there other apart)
              ];
        };
      }

turned_same : (n : Noding) (es : List Event) (s : Step) (answer : Answer) (entry : Option Entry) → n.entries ≡ history_in (node_of (at_of s)) es
    → event_of es s (Some answer) entry ≡ record { did = record { step = s; turned = Some answer; entry = place_in n entry }; entry = entry }
turned_same n es s answer entry is = ap (λ p. record { did = record { step = s; turned = Some answer; entry = p }; entry = entry }) (sym (place_same n es (at_of s) entry is))

-- a turn of a worker that may sit adds its event
pub turn_adds : OwnAreThePlans → (a b : World) (k : ℕ) (seat : Seat) (was now : Slice) (n : Noding) (answer : Answer) (t : TakesTurn answer seat.at seat.slice (working was) (working now) a.session b.session) → SameQuery a b
    → b.left ≡ a.left → slice_get a.seats.items k ≡ Some seat → slice_get a.slices.items k ≡ Some was → b.slices.items ≡ set a.slices.items k now
    → slice_get a.session.nodes (node_of seat.at) ≡ Some n → MaySit true a.query n (marked (slice_get a.left.items (node_of seat.at))) (working was).stage → TurnsAt k (Some answer) a b
turn_adds law a b k seat was now n answer t same left sits has slices here may = (
  seat,
  λ q x stands. ap (λ l. slice_get l k) (sym stands.order) ∙ sits,
  turn_event answer seat.at seat.slice (working was) (working now) a.session b.session t,
  refl,
  refl,
  λ q x stands.
      let node_same : n ≡ t.node = same_some n t.node (sym here ∙ t.here) in
      let own = own_is law q x a k seat t.node (working was).stage stands sits t.here (subst (λ m. MaySit true a.query m (marked (slice_get a.left.items (node_of seat.at))) (working was).stage) node_same may) in
      subst (λ e. Goes q x e b)
      (turned_same t.node (all_events x) (step.Turn seat.slice seat.at) answer (entry_of answer seat.at seat.slice (working was) (working now) a.session b.session t) (stands.recalls.histories (node_of seat.at) t.node t.here))
      (turn_goes q x a b k seat was now answer t stands same left sits has slices own),
)
