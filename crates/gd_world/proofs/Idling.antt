-- Why a step doesn't apply, by what was done.
use Rattle.std.proofs.Common.{◌≡◌, ℕ, ◌≤◌, ℤ, length, true, false, Option, Some, None, Ok, Err, refl, ap, sym, ◌∙◌, subst, arith, inl, inr, slice_get}
use Rattle.std.proofs.lemmas.Option.{slice_get_cases, slice_get_within}
use Rattle.ic_base.specs.declared.datagram.Datagram.{Datagram}
use Rattle.ic_law.specs.Streams.{node_of}
use Rattle.pl_runs.specs.Distributed.{Query}
use Rattle.ic_port.specs.Noding.{Noding}
use Rattle.ex_slice.specs.declared.slice.Slice.{Slice}
use Rattle.ex_slice.specs.declared.stage.Stage.{Stage}
use Rattle.ex_slice.specs.declared.stage.Stage.TheVariants as stages
use Rattle.ex_slice.specs.declared.stage.Turned.TheVariants.{Moved, Waiting, Done}
use Rattle.ex_slice.specs.Slicing.{working}
use Rattle.ex_slice.specs.Turning.{is_going, is_at_end}
use Rattle.gd_world.specs.declared.step.Step.TheVariants as step
use Rattle.gd_world.specs.declared.seat.Seat.{Seat}
use Rattle.gd_world.specs.declared.world.World.{World}
use Rattle.gd_world.specs.Doings.{Answer}
use Rattle.gd_world.specs.Events.{segment_at, has_begun, has_left}
use Rattle.gd_world.specs.Sessions.{sent_by}
use Rattle.gd_world.specs.Turns.{turns_of, last_answer, says_done, is_done, StandsBy}
use Rattle.gd_world.specs.Workers.{seat_of, seats_in}
use Rattle.gd_world.specs.Worlds.{Account, all_events, Stands}
use Rattle.gd_world.specs.Steps.{IsNodeOf, CannotTurn, Idles, IdlesAt}
use Rattle.gd_world.specs.Inside.{MayBegin, MayLeave, MayTurn, marked}
use Rattle.gd_world.proofs.Places.{same_some}
use Rattle.gd_world.proofs.Marking.{mark_is, begun_is, not_here}
use Rattle.gd_world.proofs.Sending.{sent_is}

-- ---- workers that are done

not_end : (s : Stage) → is_going s ≡ true → is_at_end s ≡ false
not_end stages.Giving e = refl
not_end stages.Ending e = refl
not_end stages.Halting e = refl
not_end stages.Done e = absurd (let bad : false ≡ true = e in cc)
not_end (stages.Refused refusal) e = refl

end_of_answer : (s : Stage) (o : Option Answer) → StandsBy s o → is_at_end s ≡ says_done o
end_of_answer s None is = not_end s is
end_of_answer s (Some (Ok Moved)) is = not_end s is
end_of_answer s (Some (Ok (Waiting refusal))) is = not_end s is
end_of_answer s (Some (Ok Done)) is = ap is_at_end is
end_of_answer s (Some (Err refusal)) is = ap is_at_end is

-- a slice is at its end if its worker is done
pub done_is : (q : Query) (x : Account) (w : World) (k : ℕ) (seat : Seat) (slice : Slice) → Stands q x w → slice_get w.seats.items k ≡ Some seat → slice_get w.slices.items k ≡ Some slice
    → is_at_end (working slice).stage ≡ is_done seat.slice seat.at x.events
done_is q x w k seat slice stands sits has = end_of_answer (working slice).stage (last_answer (turns_of seat.slice seat.at x.events)) (stands.workers k seat slice sits has).told

sits_so : (q : Query) (x : Account) (w : World) (k : ℕ) (seat : Seat) → Stands q x w → slice_get (seats_in q) k ≡ Some seat → slice_get w.seats.items k ≡ Some seat
sits_so q x w k seat stands sits = ap (λ l. slice_get l k) stands.order ∙ sits

pub done_at : (q : Query) (x : Account) (w : World) (k : ℕ) (seat : Seat) (slice : Slice) → Stands q x w → slice_get (seats_in q) k ≡ Some seat → slice_get w.slices.items k ≡ Some slice
    → is_at_end (working slice).stage ≡ is_done seat.slice seat.at x.events
done_at q x w k seat slice stands sits has = done_is q x w k seat slice stands (sits_so q x w k seat stands sits) has

pub slice_there : (q : Query) (x : Account) (w : World) (k : ℕ) (seat : Seat) → Stands q x w → slice_get (seats_in q) k ≡ Some seat → slice_get w.slices.items k ≡ None → ⊥
slice_there q x w k seat stands sits none = elim (slice_get_cases w.slices.items k).1 [
  | inl s ↦ let bad : Some s.0 ≡ None = sym s.2 ∙ none in cc
  | inr past ↦ omega (arith, past.0, stands.count, slice_get_within w.seats.items k seat (sits_so q x w k seat stands sits))
]

-- ---- nodes

pub node_there : (q : Query) (x : Account) (w : World) (at : ℤ) → Stands q x w → IsNodeOf q at → (n : Noding) × (slice_get w.session.nodes (node_of at) ≡ Some n)
node_there q x w at stands within = elim (slice_get_cases w.session.nodes (node_of at)).1 [
  | inl n ↦ (n.0, n.2)
  | inr none ↦ absurd (omega (arith, none.0, within, stands.session.count))
]

-- whether a node has left, by its mark
pub left_at : (q : Query) (x : Account) (w : World) (at : ℤ) → at ≡ segment_at (node_of at) → Stands q x w → IsNodeOf q at → marked (slice_get w.left.items (node_of at)) ≡ has_left at x.events
left_at q x w at back stands within = mark_is q x w (node_of at) stands (omega (arith, within, stands.session.count)) ∙ ap (λ z. has_left z x.events) (sym back)

-- ---- each step

pub begin_idle : (at : ℤ) (w : World) → at ≡ segment_at (node_of at) → MayBegin false w.query (slice_get w.session.nodes (node_of at)) → Idles (step.Begin at) w
begin_idle at w back may q x stands within =
    let n = node_there q x w at stands within in
    ap (λ z. has_begun z x.events) back ∙ begun_is q (node_of at) x.events n.0 (stands.reached (node_of at) n.0 n.1) (omega (arith, may n.0 n.1, stands.plan.number_is))

pub tick_idle : (at : ℤ) (w : World) → length w.session.nodes ≤ node_of at → Idles (step.Tick at) w
tick_idle at w past q x stands within = omega (arith, past, within, stands.session.count)

pub deliver_past : (number : ℕ) (at : ℤ) (w : World) → length w.session.nodes ≤ node_of at → Idles (step.Deliver number at) w
deliver_past number at w past q x stands d sent to within = omega (arith, past, within, stands.session.count)

pub deliver_none : (number : ℕ) (at : ℤ) (w : World) → None ≡ slice_get (sent_by w.session) number → Idles (step.Deliver number at) w
deliver_none number at w none q x stands d sent to within = let bad : None ≡ Some d = none ∙ ap (λ l. slice_get l number) (sent_is (all_events x) w.session stands.recalls) ∙ sent in cc

pub deliver_elsewhere : (number : ℕ) (at : ℤ) (d : Datagram) (w : World) → Some d ≡ slice_get (sent_by w.session) number → (d.to ≡ at → ⊥) → Idles (step.Deliver number at) w
deliver_elsewhere number at d w is other q x stands e sent to within =
    let same : d ≡ e = same_some d e (is ∙ ap (λ l. slice_get l number) (sent_is (all_events x) w.session stands.recalls) ∙ sent) in
    other (ap (λ (z : Datagram). z.to) same ∙ to)

pub leave_idle : (at : ℤ) (w : World) → at ≡ segment_at (node_of at) → MayLeave false w.query (slice_get w.session.nodes (node_of at)) (marked (slice_get w.left.items (node_of at))) → Idles (step.Leave at) w
leave_idle at w back may q x stands within =
    let n = node_there q x w at stands within in
    elim (may n.0 n.1) [
      | inl other ↦ inl (ap (λ z. has_begun z x.events) back ∙ not_here q (node_of at) x.events n.0 (stands.reached (node_of at) n.0 n.1) (λ e. other (e ∙ sym stands.plan.number_is)))
      | inr gone ↦ inr (sym (left_at q x w at back stands within) ∙ gone)
    ]

pub turn_idle : (k : ℕ) (seat : Seat) (w : World) → slice_get w.seats.items k ≡ Some seat
    → MayTurn false w.query (slice_get w.session.nodes (node_of seat.at)) (marked (slice_get w.left.items (node_of seat.at))) (slice_get w.slices.items k) → IdlesAt k w
turn_idle k seat w sits may q x other stands there =
    let same : seat ≡ other = same_some seat other (sym sits ∙ sits_so q x w k other stands there) in
    let back = stands.seats.at k seat sits in
    let within = stands.seats.within k seat sits in
    let n = node_there q x w seat.at stands within in
    subst (CannotTurn q x) same (elim (slice_get_cases w.slices.items k).1 [
      | inl s ↦ elim (may n.0 s.0 n.1 s.2) [
        | inl elsewhere ↦ inl (ap (λ z. has_begun z x.events) back ∙ not_here q (node_of seat.at) x.events n.0 (stands.reached (node_of seat.at) n.0 n.1) (λ e. elsewhere (e ∙ sym stands.plan.number_is)))
        | inr gone ↦ inr (sym (left_at q x w seat.at back stands within) ∙ gone.0, sym (done_is q x w k seat s.0 stands sits s.2) ∙ gone.1)
      ]
      | inr none ↦ absurd (slice_there q x w k seat stands (ap (λ l. slice_get l k) (sym stands.order) ∙ sits) none.1)
    ])

pub no_seat : (k : ℕ) (w : World) → slice_get w.seats.items k ≡ None → IdlesAt k w
no_seat k w none q x seat stands there = absurd (let bad : None ≡ Some seat = sym none ∙ sits_so q x w k seat stands there in cc)

-- a worker of the plan that can't take a turn
pub turn_none : (slice : ℕ) (at : ℤ) (w : World) → ((k : ℕ) → slice_get w.seats.items k ≡ Some (seat_of slice at) → ⊥) → Idles (step.Turn slice at) w
turn_none slice at w nowhere q x stands works = let sits = stands.seats.all slice at works in absurd (nowhere sits.0 sits.1)

pub turn_idles : (k slice : ℕ) (at : ℤ) (w : World) → slice_get w.seats.items k ≡ Some (seat_of slice at) → IdlesAt k w → Idles (step.Turn slice at) w
turn_idles k slice at w sits idle q x stands works = idle q x (seat_of slice at) stands (ap (λ l. slice_get l k) (sym stands.order) ∙ sits)
