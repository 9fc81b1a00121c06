use Rattle.std.proofs.Common.{◌≡◌, ap, ◌∙◌, arith, subst, length, replicate, false}
use Rattle.gd_world.specs.Sessions.{Sessional}
use Rattle.gd_world.specs.Inside.{AreFreshAt}
use Rattle.gd_world.proofs.Meeting.{starts_stand}
use Rattle.gd_world.proofs.world.World.new.Goals as goal

pub returns : goal.returns
returns c = λ q es starts.
    let long : c.len.result ≡ length c.args.session.nodes = omega (arith, c.len.ensures, ap (λ (s : Sessional). length s.nodes) c.session.view_is) in
    starts_stand c.a_query_begins_with_no_log.ensures q es c.args.loaded.now c.number-number.result _ c.lawful.ensures c.is_judged.ensures.least_segments c.in_ok-seats.ensures c.number-number.ensures
    (subst (λ l. AreFreshAt c.args.plan.now c.args.loaded.now c.number-number.result c.args.query l c.in_ok-slices.slices.items) c.as_slice.ensures.value c.in_ok-slices.ensures)
    (c.in_ok-left.ensures ∙ ap (λ n. replicate n false) long) starts
