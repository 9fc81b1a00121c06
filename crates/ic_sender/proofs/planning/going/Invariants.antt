use Rattle.std.proofs.Common.{◌≡◌, map}
use Rattle.ic_law.specs.Timing.{numbers_behind}
use Rattle.ic_sender.specs.Sending.{rows_kept, flight_of}
use Rattle.ic_sender.specs.Views.{with_newest}
use Rattle.ic_sender.proofs.planning.going.Given as goal

abbrev pub invariant-loop-behind : goal.invariant-loop-behind
invariant-loop-behind l = l.out.items ≡ map (flight_of l.end l.now) (rows_kept (with_newest l.ring l.newest) (numbers_behind l.sent l.behind))
