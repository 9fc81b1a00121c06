-- A step that is done is one that applies.
use Rattle.std.proofs.Common.{◌≡◌, ◌⊎◌, ℕ, ◌+◌, ◌<◌, ◌≤◌, ℤ, List, length, Bool, true, false, Some, refl, ap, sym, ◌∙◌, subst, arith, inl, inr, slice_get}
use Rattle.std.proofs.lemmas.Option.{slice_get_within}
use Rattle.ic_base.specs.declared.datagram.Datagram.{Datagram}
use Rattle.ic_law.specs.Streams.{node_of}
use Rattle.pl_plan.specs.Motions.{gang_of, slices_in}
use Rattle.gd_answer.proofs.Links.{in_contains}
use Rattle.pl_runs.specs.Distributed.{Query}
use Rattle.ic_port.specs.Noding.{Noding}
use Rattle.ex_slice.specs.declared.slice.Slice.{Slice}
use Rattle.ex_slice.specs.Slicing.{working}
use Rattle.gd_world.specs.declared.step.Step.TheVariants as step
use Rattle.gd_world.specs.declared.seat.Seat.{Seat}
use Rattle.gd_world.specs.declared.world.World.{World}
use Rattle.gd_world.specs.Doings.{Answer}
use Rattle.gd_world.specs.Events.{segment_at, has_begun, has_left}
use Rattle.gd_world.specs.Sessions.{sent_by}
use Rattle.gd_world.specs.Turns.{is_done}
use Rattle.gd_world.specs.Workers.{seat_of, seats_in}
use Rattle.gd_world.specs.Worlds.{Account, all_events, Stands}
use Rattle.gd_world.specs.Steps.{IsNodeOf, CannotTurn, Applies, AppliesAt}
use Rattle.gd_world.specs.Inside.{MaySit, marked}
use Rattle.gd_world.proofs.Places.{same_some}
use Rattle.gd_world.proofs.Marking.{not_yet, begun_is}
use Rattle.gd_world.proofs.Sending.{sent_is}
use Rattle.gd_world.proofs.Seats.{get_in, seats_within}
use Rattle.gd_world.proofs.Idling.{done_is, left_at}

apart : (b : Bool) → b ≡ false → b ≡ true → ⊥
apart b no_ yes_ = let bad : false ≡ true = sym no_ ∙ yes_ in cc

within : (q : Query) (x : Account) (w : World) (at : ℤ) (n : Noding) → Stands q x w → slice_get w.session.nodes (node_of at) ≡ Some n → IsNodeOf q at
within q x w at n stands here = omega (arith, slice_get_within w.session.nodes (node_of at) n here, stands.session.count)

pub begin_applies : (at : ℤ) (w : World) (n : Noding) → at ≡ segment_at (node_of at) → slice_get w.session.nodes (node_of at) ≡ Some n → n.query < w.query → Applies (step.Begin at) true w
begin_applies at w n back here later q x stands idle =
    apart (has_begun at x.events)
    (ap (λ z. has_begun z x.events) back ∙ not_yet q (node_of at) x.events n (stands.reached (node_of at) n here) (subst (λ k. n.query < k) stands.plan.number_is later))
    (idle (within q x w at n stands here))

pub tick_applies : (at : ℤ) (w : World) → node_of at < length w.session.nodes → Applies (step.Tick at) true w
tick_applies at w there q x stands idle = idle (omega (arith, there, stands.session.count))

pub deliver_applies : (number : ℕ) (at : ℤ) (d : Datagram) (w : World) → node_of at < length w.session.nodes → Some d ≡ slice_get (sent_by w.session) number → d.to ≡ at → Applies (step.Deliver number at) true w
deliver_applies number at d w there sent to q x stands idle =
    idle d (sym (sent ∙ ap (λ l. slice_get l number) (sent_is (all_events x) w.session stands.recalls))) to (omega (arith, there, stands.session.count))

-- a node that has begun the query
begun_there : (q : Query) (x : Account) (w : World) (at : ℤ) (n : Noding) → Stands q x w → at ≡ segment_at (node_of at) → slice_get w.session.nodes (node_of at) ≡ Some n → n.query ≡ w.query → has_begun at x.events ≡ true
begun_there q x w at n stands back here in_it =
    ap (λ z. has_begun z x.events) back ∙ begun_is q (node_of at) x.events n (stands.reached (node_of at) n here) (omega (arith, in_it, stands.plan.number_is))

pub leave_applies : (at : ℤ) (w : World) (n : Noding) → at ≡ segment_at (node_of at) → slice_get w.session.nodes (node_of at) ≡ Some n → n.query ≡ w.query → marked (slice_get w.left.items (node_of at)) ≡ false → Applies (step.Leave at) true w
leave_applies at w n back here in_it unmarked q x stands idle =
    let there = within q x w at n stands here in
    elim (idle there) [
      | inl not_begun ↦ apart (has_begun at x.events) not_begun (begun_there q x w at n stands back here in_it)
      | inr gone ↦ apart (has_left at x.events) (sym (left_at q x w at back stands there) ∙ unmarked) gone
    ]

pub turn_applies : (k : ℕ) (seat : Seat) (answer : Answer) (w : World) (n : Noding) (slice : Slice) → slice_get w.seats.items k ≡ Some seat → slice_get w.session.nodes (node_of seat.at) ≡ Some n → slice_get w.slices.items k ≡ Some slice
    → MaySit true w.query n (marked (slice_get w.left.items (node_of seat.at))) (working slice).stage → AppliesAt k (Some answer) w
turn_applies k seat answer w n slice sits here has may q x other stands there cannot =
    let same : seat ≡ other = same_some seat other (sym sits ∙ ap (λ l. slice_get l k) stands.order ∙ there) in
    let back = stands.seats.at k seat sits in
    let node = stands.seats.within k seat sits in
    let here_not : CannotTurn q x seat = subst (CannotTurn q x) (sym same) cannot in
    elim here_not [
      | inl not_begun ↦ apart (has_begun seat.at x.events) not_begun (begun_there q x w seat.at n stands back here may.0)
      | inr gone ↦ elim may.1 [
        | inl unmarked ↦ apart (has_left seat.at x.events) (sym (left_at q x w seat.at back stands node) ∙ unmarked) gone.0
        | inr done ↦ apart (is_done seat.slice seat.at x.events) gone.1 (sym (done_is q x w k seat slice stands sits has) ∙ done)
      ]
    ]

pub step_applies : (k slice : ℕ) (at : ℤ) (answer : Answer) (w : World) → slice_get w.seats.items k ≡ Some (seat_of slice at) → AppliesAt k (Some answer) w → Applies (step.Turn slice at) true w
step_applies k slice at answer w sits applies q x stands idle =
    let there : slice_get (seats_in q) k ≡ Some (seat_of slice at) = ap (λ l. slice_get l k) (sym stands.order) ∙ sits in
    let member = seats_within q.site.schemas q.site.segments q.tree (slices_in q.tree) (seat_of slice at) (get_in (seats_in q) k (seat_of slice at) there) in
    applies q x (seat_of slice at) stands there (idle (in_contains (gang_of q.site.schemas q.site.segments q.tree slice) at member.1))
