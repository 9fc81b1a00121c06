use Rattle.std.proofs.Common.{◌≡◌, ◌++◌, map, take}
use Rattle.gd_world.specs.Workers.{seat_of}
use Rattle.gd_world.proofs.making.seat_gang.Given as goal

abbrev pub invariant-loop-at : goal.invariant-loop-at
invariant-loop-at l = l.seats.items ≡ l.fn.seats.items ++ map (seat_of l.slice) (take l.at-index l.gang)
