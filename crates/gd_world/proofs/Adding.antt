-- Each step that is no turn adds its event.
use Rattle.std.proofs.Common.{◌≡◌, ℕ, ◌<◌, ℤ, List, set, Bool, true, false, ◌&&◌, Some, None, refl, ap, sym, ◌∙◌, subst, slice_get}
use Rattle.ic_base.specs.declared.keys.ConnEnd.{ConnEnd}
use Rattle.ic_base.specs.declared.datagram.Datagram.{Datagram}
use Rattle.ic_law.specs.declared.history.HubAsk.TheVariants as ask
use Rattle.std.specs.Ordering.{int_eq}
use Rattle.ic_law.specs.Queries.{was_begun, was_left}
use Rattle.ic_law.specs.Streams.{node_of}
use Rattle.ic_port.specs.Noding.{Noding}
use Rattle.gd_world.specs.declared.step.Step.TheVariants as step
use Rattle.gd_world.specs.declared.world.World.{World}
use Rattle.gd_world.specs.Events.{IsStep, begins_it, delivers, ticks, leaves_it, event_of, asked, segment_at}
use Rattle.gd_world.specs.Sessions.{sent_by}
use Rattle.gd_world.specs.Worlds.{IsWorld, all_events, all_ends, running}
use Rattle.gd_world.specs.Steps.{Steps}
use Rattle.gd_world.specs.Inside.{StaysBy, Begins, BeginsIf, Leaves, EntersAsked, EntersLeft, EndsOf, CanBegin, marked}
use Rattle.gd_world.proofs.Places.{same_some, int_same}
use Rattle.gd_world.proofs.Marking.{stays_reached, begins_reached, leaves_reached, marks_same, marks_leave}
use Rattle.gd_world.proofs.Standing.{SameQuery, asks_add}
use Rattle.gd_world.proofs.Meeting.{can_begin, ends_are}
use Rattle.gd_world.proofs.Sending.{sent_is}

pub tick_adds : (at : ℤ) (a b : World) → SameQuery a b → b.slices ≡ a.slices → b.left ≡ a.left → EntersAsked StaysBy at (step.Tick at) ask.Tick a.session b.session → Steps (step.Tick at) true a b
tick_adds at a b same slices left t =
    asks_add StaysBy (step.Tick at) ask.Tick a b same slices t (marks_same a b (step.Tick at) (asked ask.Tick t.reply) left (λ z. refl)) tt (λ slice seat. refl)
    (λ q x stands was. stays_reached q (node_of at) x.events (event_of (all_events x) (step.Tick at) None (asked ask.Tick t.reply)) t.enters.node t.enters.now refl refl t.enters.goes was)
    (λ q x stands. ticks at t.reply)

pub deliver_adds : (at : ℤ) (number : ℕ) (d : Datagram) (a b : World) → SameQuery a b → b.slices ≡ a.slices → b.left ≡ a.left → slice_get (sent_by a.session) number ≡ Some d → d.to ≡ at
    → EntersAsked StaysBy at (step.Deliver number at) (ask.Arrive d) a.session b.session → Steps (step.Deliver number at) true a b
deliver_adds at number d a b same slices left sent to t =
    asks_add StaysBy (step.Deliver number at) (ask.Arrive d) a b same slices t (marks_same a b (step.Deliver number at) (asked (ask.Arrive d) t.reply) left (λ z. refl)) tt (λ slice seat. refl)
    (λ q x stands was. stays_reached q (node_of at) x.events (event_of (all_events x) (step.Deliver number at) None (asked (ask.Arrive d) t.reply)) t.enters.node t.enters.now refl refl t.enters.goes was)
    (λ q x stands.
    subst (λ z. IsStep (running q) (all_events x) (event_of (all_events x) (step.Deliver number z) None (asked (ask.Arrive d) t.reply))) to
    (delivers number d t.reply (ap (λ l. slice_get l number) (sym (sent_is (all_events x) a.session stands.recalls)) ∙ sent)))

pub begin_adds : (at : ℤ) (ends : List ConnEnd) (n : Noding) (a b : World) → slice_get a.session.nodes (node_of at) ≡ Some n → n.query < a.query → EndsOf a at ends → SameQuery a b → b.slices ≡ a.slices → b.left ≡ a.left
    → EntersAsked (Begins a.query ends) at (step.Begin at) (ask.Begin a.query ends) a.session b.session → Steps (step.Begin at) true a b
begin_adds at ends n a b here later are same slices left t =
    asks_add (Begins a.query ends) (step.Begin at) (ask.Begin a.query ends) a b same slices t (marks_same a b (step.Begin at) (asked (ask.Begin a.query ends) t.reply) left (λ z. refl)) tt (λ slice seat. refl)
    (λ q x stands was.
    let all : ends ≡ all_ends q (segment_at (node_of at)) = ends_are q x a at ends n stands here are ∙ ap (all_ends q) t.enters.back in
    let node_is : n ≡ t.enters.node = same_some n t.enters.node (sym here ∙ t.enters.here) in
    begins_reached q (node_of at) x.events (event_of (all_events x) (step.Begin at) None (asked (ask.Begin a.query ends) t.reply)) (was_begun t.reply) t.enters.node t.enters.now
    (ap (λ c. c && was_begun t.reply) (ap (int_eq at) (sym t.enters.back) ∙ int_same at)) refl (subst (λ (m : Noding). m.query < q.number) node_is (subst (λ k. n.query < k) stands.plan.number_is later))
    (subst (λ l. BeginsIf (was_begun t.reply) q.number l t.enters.node t.enters.now) all (subst (λ k. BeginsIf (was_begun t.reply) k ends t.enters.node t.enters.now) stands.plan.number_is t.enters.goes)) was)
    (λ q x stands.
    subst (λ l. IsStep (running q) (all_events x) (event_of (all_events x) (step.Begin at) None (asked (ask.Begin a.query l) t.reply))) (sym (ends_are q x a at ends n stands here are))
    (subst (λ k. IsStep (running q) (all_events x) (event_of (all_events x) (step.Begin at) None (asked (ask.Begin k (all_ends q at)) t.reply))) (sym stands.plan.number_is) (begins_it at t.reply)))

pub leave_adds : (at : ℤ) (n : Noding) (gone : Bool) (a b : World) → slice_get a.session.nodes (node_of at) ≡ Some n → n.query ≡ a.query → SameQuery a b → b.slices ≡ a.slices
    → b.left.items ≡ set a.left.items (node_of at) gone → marked (slice_get a.left.items (node_of at)) ≡ false → EntersLeft gone at a.query a.session b.session → Steps (step.Leave at) true a b
leave_adds at n gone a b here query same slices left unmarked t =
    let does = t.does in
    asks_add Leaves (step.Leave at) (ask.Leave a.query) a b same slices does (marks_leave a b at (asked (ask.Leave a.query) does.reply) gone does.enters.back left unmarked t.told) tt (λ slice seat. refl)
    (λ q x stands was.
    let node_is : n ≡ does.enters.node = same_some n does.enters.node (sym here ∙ does.enters.here) in
    leaves_reached q (node_of at) x.events (event_of (all_events x) (step.Leave at) None (asked (ask.Leave a.query) does.reply)) (was_left does.reply) does.enters.node does.enters.now refl
    (ap (λ c. c && was_left does.reply) (ap (int_eq at) (sym does.enters.back) ∙ int_same at)) (subst (λ (m : Noding). m.query ≡ q.number) node_is (query ∙ stands.plan.number_is)) does.enters.goes was)
    (λ q x stands.
    subst (λ k. IsStep (running q) (all_events x) (event_of (all_events x) (step.Leave at) None (asked (ask.Leave k) does.reply))) (sym stands.plan.number_is) (leaves_it at does.reply))

pub may_begin_it : (at : ℤ) (ends : List ConnEnd) (w : World) (n : Noding) → IsWorld w → at ≡ segment_at (node_of at) → slice_get w.session.nodes (node_of at) ≡ Some n → n.query < w.query → EndsOf w at ends → CanBegin at w.query ends w.session
may_begin_it at ends w n is back here later are = can_begin is.query is.account w at ends n is.stands back here later are
