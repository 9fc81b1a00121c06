use Rattle.std.proofs.Common.{◌-◌, ◌++◌, map, ap, ◌∙◌, refl}
use Rattle.pl_tree.specs.Trees.{tree_in}
use Rattle.gd_world.specs.Workers.{seat_of}
use Rattle.gd_world.proofs.Seats.{gang_more}
use Rattle.gd_world.proofs.making.seats_of.Goals as goal

pub loop-done-preserved : goal.loop-done-preserved
loop-done-preserved c =
    let j = c.args.plan.now in
    let slice = c.slices-count.result - 1 - c.loop-done.done in
    gang_more j.schemas j.segments (tree_in j.plan) c.slices-count.result c.loop-done.done slice c.loop-done.seats.items c.seat_gang.new.seats.items _ c.loop-done-test.true refl
    (c.in_ok-seat_gang.ensures ∙ ap (λ g. c.loop-done.seats.items ++ map (seat_of slice) g) (c.as_slice.ensures ∙ c.in_ok-gang.ensures)) c.loop-done.invariant
