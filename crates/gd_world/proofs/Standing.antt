-- A world stands for one event more that is no turn.
use Rattle.std.proofs.Common.{◌≡◌, ℕ, ◌&&◌, ℤ, List, [], ◌∷◌, ◌++◌, length, true, false, cond, Option, None, refl, ap, sym, ◌∙◌, subst, inl, inr, append_assoc, append-nil, slice_get, length-set}
use Rattle.std.proofs.lemmas.Bool.Decides.{eqb_tells}
use Rattle.ic_base.specs.declared.keys.ConnEnd.{ConnEnd}
use Rattle.ic_law.specs.declared.history.Entry.{Entry}
use Rattle.ic_law.specs.declared.history.HubAsk.{HubAsk}
use Rattle.ic_law.specs.declared.history.HubAsk.TheVariants as ask
use Rattle.ic_law.specs.declared.history.HubReply.{HubReply}
use Rattle.ic_law.specs.Streams.{node_of}
use Rattle.ic_law.proofs.Lists.{flat_map-push}
use Rattle.pl_runs.specs.Logs.{log_of, logs}
use Rattle.pl_runs.specs.Distributed.{Query, Courses}
use Rattle.ic_port.specs.Noding.{Noding}
use Rattle.ic_desk.specs.Laws.{IsDrivers}
use Rattle.ex_slice.specs.Slicing.{working}
use Rattle.gd_world.specs.declared.step.Step.{Step}
use Rattle.gd_world.specs.declared.world.World.{World}
use Rattle.gd_world.specs.Doings.{at_of}
use Rattle.gd_world.specs.Events.{Event, IsStep, node_in, segment_at, entry_at, history_in, event_of, asked, begun_with, left_with}
use Rattle.gd_world.specs.Sessions.{Recalls}
use Rattle.gd_world.specs.Turns.{is_of, taken_with, taken_in, turns_of, logged_by}
use Rattle.gd_world.specs.Workers.{AreSeats, WorkerStands, worker_in, ends_in}
use Rattle.gd_world.specs.Worlds.{Account, all_events, with_event, running, IsReached, Stands}
use Rattle.gd_world.specs.Steps.{Goes, Steps}
use Rattle.gd_world.specs.Inside.{Enters, EntersAsked, place_in}
use Rattle.gd_world.proofs.Places.{get_set}
use Rattle.gd_world.proofs.Marking.{MarksOn, node_segment, asks_elsewhere, stays_reached, left_on}
use Rattle.gd_world.proofs.Recalling.{entry_here, entry_there, place_same, recalls_on, session_on}

-- ---- what a driver's call leaves

-- a call of the node's driver adds to no worker's log
logs_none : (ends : List ConnEnd) (asking : HubAsk) (reply : HubReply) → IsDrivers asking → logs ends (record { ask = asking; reply = reply }) ≡ []
logs_none ends (ask.Begin q es) reply d = refl
logs_none ends (ask.Put key chunk) reply d = absurd d
logs_none ends (ask.Finish key) reply d = absurd d
logs_none ends (ask.Take q motion) reply d = absurd d
logs_none ends (ask.TakeFrom key) reply d = absurd d
logs_none ends (ask.Halt key) reply d = absurd d
logs_none ends (ask.Arrive x) reply d = refl
logs_none ends ask.Tick reply d = refl
logs_none ends (ask.Clear q) reply d = refl
logs_none ends (ask.Leave q) reply d = refl

pub log_append : (ends : List ConnEnd) (h more : List Entry) → log_of ends (h ++ more) ≡ log_of ends h ++ log_of ends more
log_append ends h more = Rattle.ic_law.proofs.Lists.flat_map-append (logs ends) h more

-- the world runs the same query with the same seats
pub record SameQuery (a b : World) : Type 0 where
  pub plan : b.plan ≡ a.plan
  pub query : b.query ≡ a.query
  pub seats : b.seats ≡ a.seats

-- ---- the world

pub joined : (x : Account) (e : Event) (courses : Courses) → all_events (with_event x e courses) ≡ all_events x ++ e ∷ []
joined x e courses = sym (append_assoc x.earlier x.events (e ∷ []))

module _ (q : Query) (x : Account) (a b : World) (s : Step) (asking : HubAsk) (reply : HubReply) where
  abbrev e : Event
  e = event_of (all_events x) s None (asked asking reply)

  turns_same : ((slice : ℕ) (at : ℤ) → taken_in slice at e ≡ []) → (slice : ℕ) (at : ℤ) → turns_of slice at x.events ≡ turns_of slice at (x.events ++ e ∷ [])
  turns_same none slice at = sym (append-nil (turns_of slice at x.events)) ∙ ap (λ l. turns_of slice at x.events ++ l) (sym (none slice at)) ∙ sym (flat_map-push (taken_in slice at) x.events e)

  log_here : (k : ℕ) (ends : List ConnEnd) → IsDrivers asking → log_of ends (entry_at k e) ≡ []
  log_here k ends driver =
      elim (eqb_tells (node_in e) k) [
        | inl w ↦ ap (log_of ends) (entry_here k e w.1) ∙ append-nil (logs ends (record { ask = asking; reply = reply })) ∙ logs_none ends asking reply driver
        | inr w ↦ ap (log_of ends) (entry_there k e w.1)
      ]

  log_same : (k : ℕ) (ends : List ConnEnd) → IsDrivers asking → log_of ends (history_in k (all_events x ++ e ∷ [])) ≡ log_of ends (history_in k (all_events x))
  log_same k ends driver =
      ap (log_of ends) (flat_map-push (entry_at k) (all_events x) e) ∙ log_append ends (history_in k (all_events x)) (entry_at k e)
      ∙ ap (λ l. log_of ends (history_in k (all_events x)) ++ l) (log_here k ends driver) ∙ append-nil (log_of ends (history_in k (all_events x)))

  pub drives : Stands q x a → SameQuery a b → b.slices ≡ a.slices → (P : Noding → Noding → Type 0) (enters : Enters P (at_of s) s None (asked asking reply) a.session b.session) → MarksOn a b s (asked asking reply)
      → (IsReached q (node_of (at_of s)) x.events enters.node → IsReached q (node_of (at_of s)) (x.events ++ e ∷ []) enters.now)
      → IsDrivers asking → ((slice : ℕ) (at : ℤ) → taken_in slice at e ≡ []) → IsStep (running q) (all_events x) e → Goes q x e b
  drives was same slices P enters marks reach driver none step =
      let seats_same : b.seats.items ≡ a.seats.items = ap (λ v. v.items) same.seats in
      let slices_same : b.slices.items ≡ a.slices.items = ap (λ v. v.items) slices in
      record {
        step = step;
        courses = x.courses;
        stands = record {
          plan = record {
            number_is = same.query ∙ was.plan.number_is;
            schemas = ap (λ p. p.now.schemas) same.plan ∙ was.plan.schemas;
            segments = ap (λ p. p.now.segments) same.plan ∙ was.plan.segments;
            settings = ap (λ p. p.now.settings) same.plan ∙ was.plan.settings;
            tree = ap (λ p. Rattle.pl_tree.specs.Trees.tree_in p.now.plan) same.plan ∙ was.plan.tree;
          };
          session = session_on (running q) s None (asked asking reply) P a.session b.session q.session q.site.segments q.settings enters was.session;
          recalls = subst (λ es. Recalls es b.session) (sym (joined x e x.courses)) (recalls_on (running q) s None (asked asking reply) P a.session b.session (all_events x) enters was.recalls step);
          reached = λ k n here.
              elim (get_set a.session.nodes (node_of (at_of s)) k enters.now n (sym (ap (λ l. slice_get l k) enters.nodes) ∙ here)) [
                | inl w ↦
                    subst (IsReached q k (x.events ++ e ∷ [])) (sym w.1)
                    (subst (λ i. IsReached q i (x.events ++ e ∷ []) enters.now) w.0 (reach (was.reached (node_of (at_of s)) enters.node enters.here)))
                | inr w ↦
                    let silent = asks_elsewhere (segment_at k) s (λ z. w.0 (ap node_of z ∙ node_segment k)) in
                    stays_reached q k x.events e n n (ap (λ c. c && begun_with (asked asking reply)) silent.0) (ap (λ c. c && left_with (asked asking reply)) silent.1) (refl, refl) (was.reached k n w.1)
              ];
          order = seats_same ∙ was.order;
          seats = subst (AreSeats q) (sym seats_same) was.seats;
          count = ap length slices_same ∙ was.count ∙ sym (ap length seats_same);
          workers = λ k seat slice sits has.
              subst (λ ts. WorkerStands (worker_in q seat) (ends_in q seat) (working slice) ts (x.courses seat.slice seat.at)) (turns_same none seat.slice seat.at)
              (was.workers k seat slice (sym (ap (λ l. slice_get l k) seats_same) ∙ sits) (sym (ap (λ l. slice_get l k) slices_same) ∙ has));
          logs = λ k seat sits.
              ap (λ es. log_of (ends_in q seat) (history_in (node_of seat.at) es)) (joined x e x.courses) ∙ log_same (node_of seat.at) (ends_in q seat) driver
              ∙ was.logs k seat (sym (ap (λ l. slice_get l k) seats_same) ∙ sits) ∙ ap (logged_by (ends_in q seat)) (turns_same none seat.slice seat.at);
          marks = marks.count ∙ was.marks ∙ sym (ap length enters.nodes ∙ length-set a.session.nodes (node_of (at_of s)) enters.now);
          left = left_on q x a b e was marks;
        };
      }

-- ---- a step that is no turn

event_same : (n : Noding) (es : List Event) (s : Step) (entry : Option Entry) → n.entries ≡ history_in (node_of (at_of s)) es
    → event_of es s None entry ≡ record { did = record { step = s; turned = None; entry = place_in n entry }; entry = entry }
event_same n es s entry is = ap (λ p. record { did = record { step = s; turned = None; entry = p }; entry = entry }) (sym (place_same n es (at_of s) entry is))

-- a step that asks a hub adds its event, if it is one of the query's, and the node and the marks go as it may
pub asks_add : (P : HubReply → Noding → Noding → Type 0) (s : Step) (asking : HubAsk) (a b : World) → SameQuery a b → b.slices ≡ a.slices → (t : EntersAsked P (at_of s) s asking a.session b.session) → MarksOn a b s (asked asking t.reply)
    → IsDrivers asking → ((slice : ℕ) (at : ℤ) → is_of slice at s ≡ false)
    → ((q : Query) (x : Account) → Stands q x a → IsReached q (node_of (at_of s)) x.events t.enters.node
    → IsReached q (node_of (at_of s)) (x.events ++ event_of (all_events x) s None (asked asking t.reply) ∷ []) t.enters.now)
    → ((q : Query) (x : Account) → Stands q x a → IsStep (running q) (all_events x) (event_of (all_events x) s None (asked asking t.reply))) → Steps s true a b
asks_add P s asking a b same slices t marks driver none reach step = (
  record { did = record { step = s; turned = None; entry = place_in t.enters.node (asked asking t.reply) }; entry = asked asking t.reply },
  refl,
  λ q x stands.
      let is = event_same t.enters.node (all_events x) s (asked asking t.reply) (stands.recalls.histories (node_of (at_of s)) t.enters.node t.enters.here) in
      subst (λ e. Goes q x e b) is
      (drives q x a b s asking t.reply stands same slices (P t.reply) t.enters marks (reach q x stands) driver
      (λ slice at. ap (λ b. cond b (taken_with None (asked asking t.reply)) []) (none slice at)) (step q x stands)),
)
