-- What the parts of a step ask for holds of a world that stands.
use Rattle.std.proofs.Common.{◌≡◌, ◌⊎◌, ℕ, zero, suc, ◌<◌, ◌≤◌, ℤ, List, [], ◌∷◌, length, replicate, true, false, Some, None, refl, ap, sym, ◌∙◌, subst, arith, inl, inr, append-nil, slice_get}
use lib.ListN.{length-replicate}
use Rattle.std.specs.List.{AllByRecursion}
use Rattle.std.proofs.lemmas.Option.{slice_get_cases, slice_get_within}
use Rattle.ic_base.specs.declared.keys.ConnEnd.{ConnEnd}
use Rattle.ic_law.specs.Points.{Place, place_at}
use Rattle.ic_law.specs.Asking.{AreEnds}
use Rattle.ic_law.specs.Streams.{node_of}
use Rattle.ic_law.proofs.LogLemmas.{none_yet}
use Rattle.pl_tree.specs.Trees.{tree_in}
use Rattle.pl_plan.specs.declared.sound.Judged.{Judged}
use Rattle.pl_plan.specs.Ends.{ends_in as plan_ends}
use Rattle.ic_base.specs.declared.port.PortEntry.{PortEntry}
use Rattle.ic_base.specs.declared.settings.Settings.{Settings}
use Rattle.pl_ops.specs.declared.loaded.Spread.{Spread}
use Rattle.pl_runs.specs.Logs.{log_of, ends_of}
use Rattle.pl_runs.specs.Slices.{Worker}
use Rattle.pl_runs.specs.Runs.{Course}
use Rattle.pl_runs.specs.Distributed.{Query}
use Rattle.gd_answer.proofs.Ends.{IsOwn as IsOwnEnd}
use Rattle.gd_answer.proofs.Links.{own as are_own}
use Rattle.ic_port.specs.Noding.{Noding, place_of}
use Rattle.ic_desk.specs.Own.{own_ends}
use Rattle.ic_desk.specs.Laws.{OwnAreThePlans, NoneHasALog, AreOf}
use Rattle.ex_slice.specs.declared.slice.Slice.{Slice}
use Rattle.ex_slice.specs.declared.stage.Stage.{Stage}
use Rattle.ex_slice.specs.declared.stage.Stage.TheVariants as stages
use Rattle.ex_plan.specs.Workers.{worker_of, part_for}
use Rattle.ex_slice.specs.Working.{Working, Works, CanTurn, Listening, Reaching, fresh_course}
use Rattle.ex_slice.specs.Slicing.{working}
use Rattle.ex_slice.specs.Turning.{is_going, is_at_end}
use Rattle.gd_world.specs.declared.seat.Seat.{Seat}
use Rattle.gd_world.specs.declared.world.World.{World}
use Rattle.gd_world.specs.Events.{Event, segment_at, history_in, has_left}
use Rattle.gd_world.specs.Sessions.{Sessional, AreLawful}
use Rattle.gd_world.specs.Workers.{IsLost, Keeps, keeps, lost, WorkerStands, worker_in, ends_in, AreSeats, seats_of, seats_in}
use Rattle.gd_world.specs.Turns.{Taken, turns_of, logged_by}
use Rattle.gd_world.specs.Worlds.{Account, all_ends, IsOfPlan, Stands, Starts, begun_with}
use Rattle.gd_world.specs.Inside.{CanBegin, CanSit, EndsOf, MaySit, marked, id_of, ends_at, IsFreshAt, AreFreshAt}
use Rattle.gd_world.proofs.Marking.{mark_is, ends_there}
use Rattle.gd_world.proofs.Seats.{are_seats}
use Rattle.gd_world.proofs.PlanEnds.{plans_have_ends}

-- ---- a query begins at a node

pub can_begin : (q : Query) (x : Account) (w : World) (at : ℤ) (ends : List ConnEnd) (n : Noding) → Stands q x w → at ≡ segment_at (node_of at) → slice_get w.session.nodes (node_of at) ≡ Some n → n.query < w.query → EndsOf w at ends
    → CanBegin at w.query ends w.session
can_begin q x w at ends n stands back here later are =
    let place : place_of n ≡ place_at q.session (segment_at (node_of at)) q.settings = stands.session.placed (node_of at) n here in
    let there : n.hub.at ≡ at = ap (λ (p : Place). p.at) place ∙ sym back in
    let of_plan : AreEnds (place_at n.hub.session at n.hub.settings) w.query (plan_ends w.plan.now.schemas w.plan.now.segments (tree_in w.plan.now.plan) n.hub.session w.query at) =
    plans_have_ends w.plan.now.schemas w.plan.now.segments (tree_in w.plan.now.plan) n.hub.session w.query at n.hub.settings in
    record {
      node = n;
      here = here;
      ends_are = subst (AreEnds (place_of n) w.query) (sym (are n here)) (subst (λ z. AreEnds (place_at n.hub.session z n.hub.settings) w.query (plan_ends w.plan.now.schemas w.plan.now.segments (tree_in w.plan.now.plan) n.hub.session w.query at)) (sym there) of_plan);
      later = later;
    }

-- the ends of the plan at a node are the query's
pub ends_are : (q : Query) (x : Account) (w : World) (at : ℤ) (ends : List ConnEnd) (n : Noding) → Stands q x w → slice_get w.session.nodes (node_of at) ≡ Some n → EndsOf w at ends → ends ≡ all_ends q at
ends_are q x w at ends n stands here are =
    are n here ∙ ap (λ s. plan_ends s w.plan.now.segments (tree_in w.plan.now.plan) n.hub.session w.query at) stands.plan.schemas
    ∙ ap (λ s. plan_ends q.site.schemas s (tree_in w.plan.now.plan) n.hub.session w.query at) stands.plan.segments ∙ ap (λ t. plan_ends q.site.schemas q.site.segments t n.hub.session w.query at) stands.plan.tree
    ∙ ap (λ s. plan_ends q.site.schemas q.site.segments q.tree s w.query at) (ap (λ (p : Place). p.session) (stands.session.placed (node_of at) n here)) ∙ ap (λ m. plan_ends q.site.schemas q.site.segments q.tree q.session m at) stands.plan.number_is

-- ---- a worker sits down

at_end : (s : Stage) → is_at_end s ≡ true → s ≡ stages.Done
at_end stages.Giving e = cc
at_end stages.Ending e = cc
at_end stages.Halting e = cc
at_end stages.Done e = refl
at_end (stages.Refused refusal) e = cc

done_stays : (s : Stage) → s ≡ stages.Done → is_going s ≡ true → ⊥
done_stays s is going = let no_ : false ≡ true = sym (ap is_going is) ∙ going in cc

lost_stays : (s : Stage) → IsLost s → is_going s ≡ true → ⊥
lost_stays stages.Giving is going = is
lost_stays stages.Ending is going = is
lost_stays stages.Halting is going = is
lost_stays stages.Done is going = is
lost_stays (stages.Refused refusal) is going = cc

-- a worker that stands can take a turn with a port of its ends and log
can_turn : (w : Worker) (ends : List ConnEnd) (x : Working) (ts : List Taken) (c : Course) (log : List PortEntry) → WorkerStands w ends x ts c → log ≡ logged_by ends ts → is_going x.stage ≡ true → CanTurn ends log x
can_turn w ends x ts c log stands is going = by stands.does
  where
    by : Keeps w ends x (logged_by ends ts) c → CanTurn ends log x
    by (keeps part works calls listens) = record { worker = w; part = part; course = c; calls = calls ∙ sym is; works = works; listens = listens; reaches = stands.reaches }
    by (lost l) = absurd (lost_stays x.stage l going)

-- the desk's ends are the worker's, or its slice is done
pub own_is : OwnAreThePlans → (q : Query) (x : Account) (w : World) (k : ℕ) (seat : Seat) (n : Noding) (stage : Stage) → Stands q x w → slice_get w.seats.items k ≡ Some seat → slice_get w.session.nodes (node_of seat.at) ≡ Some n
    → MaySit true w.query n (marked (slice_get w.left.items (node_of seat.at))) stage → (own_ends n.ends seat.slice ≡ ends_in q seat) ⊎ (stage ≡ stages.Done)
own_is law q x w k seat n stage stands sits here may =
    elim may.1 [
      | inl unmarked ↦
          let stays : has_left (segment_at (node_of seat.at)) x.events ≡ false = sym (mark_is q x w (node_of seat.at) stands (slice_get_within w.session.nodes (node_of seat.at) n here)) ∙ unmarked in
          let all : n.ends ≡ all_ends q (segment_at (node_of seat.at)) = ends_there q (node_of seat.at) x.events n (stands.reached (node_of seat.at) n here) (may.0 ∙ stands.plan.number_is) stays in
          inl (ap (λ l. own_ends l seat.slice) (all ∙ ap (all_ends q) (sym (stands.seats.at k seat sits))) ∙ law (worker_in q seat) q.session q.number)
      | inr done ↦ inr (at_end stage done)
    ]

pub can_sit : OwnAreThePlans → (q : Query) (x : Account) (w : World) (k : ℕ) (seat : Seat) (slice : Slice) (n : Noding) → Stands q x w → slice_get w.seats.items k ≡ Some seat → slice_get w.slices.items k ≡ Some slice
    → slice_get w.session.nodes (node_of seat.at) ≡ Some n → MaySit true w.query n (marked (slice_get w.left.items (node_of seat.at))) (working slice).stage → CanSit seat.at seat.slice (working slice) w.session
can_sit law q x w k seat slice n stands sits has here may = record {
  node = n;
  here = here;
  can = λ going. elim (own_is law q x w k seat n (working slice).stage stands sits here may) [
    | inl own ↦
        subst (λ l. CanTurn l (log_of l n.entries) (working slice)) (sym own)
        (can_turn (worker_in q seat) (ends_in q seat) (working slice) (turns_of seat.slice seat.at x.events) (x.courses seat.slice seat.at) (log_of (ends_in q seat) n.entries) (stands.workers k seat slice sits has)
        (ap (log_of (ends_in q seat)) (stands.recalls.histories (node_of seat.at) n here) ∙ stands.logs k seat sits) going)
    | inr done ↦ absurd (done_stays (working slice).stage done going)
  ];
}

-- ---- a world before its first step

of_query : (session query : ℕ) (at : ℤ) (ends : List ConnEnd) → AllByRecursion (IsOwnEnd session query at) ends → AreOf query ends
of_query session query at [] all = tt
of_query session query at (e ∷ ends) all = (all.0.query_is, of_query session query at ends all.1)

no_log : NoneHasALog → (q : Query) (seat : Seat) (n : Noding) → AllByRecursion (λ e. Rattle.ic_law.specs.Logs.IsUpto n.query e.ask) n.entries → n.query < q.number → log_of (ends_in q seat) n.entries ≡ []
no_log law q seat n upto later =
    law q.number (ends_in q seat) n.entries (of_query q.session q.number seat.at (ends_in q seat) (are_own (worker_in q seat) q.session q.number)) (none_yet n.query q.number n.entries upto later)

pub get_replicate : {X : Type 0} (n k : ℕ) (x y : X) → slice_get (replicate n x) k ≡ Some y → y ≡ x
get_replicate zero k x y e = absurd (let bad : None ≡ Some y = e in cc)
get_replicate (suc n) zero x y e = let same : x ≡ y = cc in sym same
get_replicate (suc n) (suc k) x y e = get_replicate n k x y e

-- the plan's worker at a seat is the query's
worker_same : (q : Query) (j : Judged) (number : ℕ) (seat : Seat) → IsOfPlan q j number → worker_of j q.site.tables seat.slice seat.at ≡ worker_in q seat
worker_same q j number seat is =
    ap (λ s. record { site = record { schemas = s; tables = q.site.tables; segments = j.segments }; tree = tree_in j.plan; packet = j.settings.packet; slice = seat.slice; at = seat.at }) is.schemas
    ∙ ap (λ n. record { site = record { schemas = q.site.schemas; tables = q.site.tables; segments = n }; tree = tree_in j.plan; packet = j.settings.packet; slice = seat.slice; at = seat.at }) is.segments
    ∙ ap (λ t. record { site = q.site; tree = t; packet = j.settings.packet; slice = seat.slice; at = seat.at }) is.tree
    ∙ ap (λ (s : Settings). record { site = q.site; tree = q.tree; packet = s.packet; slice = seat.slice; at = seat.at }) is.settings

-- a fresh slice is the worker's that took no turn
fresh_stands : (q : Query) (j : Judged) (session number : ℕ) (seat : Seat) (slice : Slice) → IsOfPlan q j number → session ≡ q.session → IsFreshAt j q.site.tables session number seat slice
    → WorkerStands (worker_in q seat) (ends_in q seat) (working slice) [] fresh_course
fresh_stands q j session number seat slice is of fresh =
    let part = part_for j q.site.tables (id_of session number seat) in
    let worker : worker_of j q.site.tables seat.slice seat.at ≡ worker_in q seat = worker_same q j number seat is in
    let ends : ends_at j q.site.tables session number seat ≡ ends_in q seat =
    ap (λ w. ends_of w session number) worker ∙ ap (λ s. ends_of (worker_in q seat) s number) of ∙ ap (λ n. ends_of (worker_in q seat) q.session n) is.number_is in
    record {
      told = fresh.going;
      answers = tt;
      reaches = subst (λ l. Reaching l (working slice).way) ends fresh.reaches;
      does = keeps part (subst (λ w. Works w part (working slice) fresh_course) worker fresh.works) refl (subst (λ l. Listening l part) ends fresh.listens);
    }

seats_same : (q : Query) (j : Judged) (number : ℕ) → IsOfPlan q j number → seats_of j.schemas j.segments (tree_in j.plan) ≡ seats_in q
seats_same q j number is =
    ap (λ s. seats_of s j.segments (tree_in j.plan)) is.schemas ∙ ap (λ n. seats_of q.site.schemas n (tree_in j.plan)) is.segments ∙ ap (seats_of q.site.schemas q.site.segments) is.tree

pub starts_stand : NoneHasALog → (q : Query) (es : List Event) (tables : List Spread) (session : ℕ) (w : World) → AreLawful w.session.nodes → 1 ≤ w.plan.now.segments
    → w.seats.items ≡ seats_of w.plan.now.schemas w.plan.now.segments (tree_in w.plan.now.plan) → ((n : Noding) → slice_get w.session.nodes 0 ≡ Some n → session ≡ n.hub.session)
    → AreFreshAt w.plan.now tables session w.query w.seats.items w.slices.items → w.left.items ≡ replicate (length w.session.nodes) false → Starts q es w.plan.now tables w.query w.session → Stands q (begun_with es) w
starts_stand law q es tables session w lawful least seats number fresh left starts =
    let order : w.seats.items ≡ seats_in q = seats ∙ seats_same q w.plan.now w.query starts.plan_is in
    let are : AreSeats q w.seats.items = subst (AreSeats q) (sym order) (are_seats q (subst (λ n. 1 ≤ n) starts.plan_is.segments least)) in
    let of : session ≡ q.session = elim (slice_get_cases w.session.nodes 0).1 [
      | inl n ↦ number n.0 n.2 ∙ ap (λ (p : Place). p.session) (starts.session_is.placed 0 n.0 n.2)
      | inr none ↦ absurd (omega (arith, none.0, starts.session_is.count))
    ] in
    record {
      plan = starts.plan_is;
      session = starts.session_is;
      recalls = subst (λ l. Rattle.gd_world.specs.Sessions.Recalls l w.session) (sym (append-nil es)) starts.recalls;
      reached = λ k n here. starts.later k n here;
      order = order;
      seats = are;
      count = fresh.count;
      workers = λ k seat slice sits has.
          fresh_stands q w.plan.now session w.query seat slice starts.plan_is of (subst (λ t. IsFreshAt w.plan.now t session w.query seat slice) starts.tables_are (fresh.each k seat slice sits has));
      logs = λ k seat sits.
          elim (slice_get_cases w.session.nodes (node_of seat.at)).1 [
            | inl n ↦
                ap (λ l. log_of (ends_in q seat) (history_in (node_of seat.at) l)) (append-nil es) ∙ ap (log_of (ends_in q seat)) (sym (starts.recalls.histories (node_of seat.at) n.0 n.2))
                ∙ no_log law q seat n.0 (lawful (node_of seat.at) n.0 n.2).upto (starts.later (node_of seat.at) n.0 n.2)
            | inr none ↦ absurd (omega (arith, none.0, are.within k seat sits, starts.session_is.count))
          ];
      marks = ap length left ∙ length-replicate (length w.session.nodes) false;
      left = λ k gone here. get_replicate (length w.session.nodes) k false gone (sym (ap (λ l. slice_get l k) left) ∙ here);
    }
