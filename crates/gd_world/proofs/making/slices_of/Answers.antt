use Rattle.std.proofs.Common.{Some, ap, sym, ◌∙◌, slice_get}
use Rattle.std.proofs.lemmas.Option.{slice_get-get_or}
use Rattle.pl_tree.specs.Trees.{tree_in}
use Rattle.gd_world.proofs.Seats.{seat_works, fresh_more}
use Rattle.gd_world.proofs.making.slices_of.Goals as goal

pub slice_at-requires : goal.slice_at-requires
slice_at-requires c =
    let j = c.args.plan.now in
    let seat = c.seat-item.result in
    let k = c.loop-seat.seat-index in
    let works = seat_works j.schemas j.segments c.is_judged.ensures.least_segments (tree_in j.plan) k seat
    (ap (λ l. slice_get l k) (sym c.requires) ∙ slice_get-get_or c.args.seats.now k seat c.loop-seat-test.true ∙ ap Some (sym c.seat-item.is)) in
    record { slice = works.0; at = works.1 }

pub loop-seat-preserved : goal.loop-seat-preserved
loop-seat-preserved c =
    fresh_more c.args.plan.now c.args.loaded.now c.args.session c.args.query c.args.seats.now c.loop-seat.seat-index c.seat-item.result c.loop-seat.slices.items c.push.new.self.items c.in_ok-slice_at.field-0 c.loop-seat-test.true
    c.seat-item.is c.loop-seat.invariant c.in_ok-push.ensures.items c.in_ok-slice_at.ensures
