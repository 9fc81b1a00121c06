use Rattle.std.proofs.Common.{take}
use Rattle.gd_world.specs.Inside.{AreFreshAt}
use Rattle.gd_world.proofs.making.slices_of.Given as goal

abbrev pub invariant-loop-seat : goal.invariant-loop-seat
invariant-loop-seat l = AreFreshAt l.plan l.loaded l.session l.query (take l.seat-index l.seats) l.slices.items
