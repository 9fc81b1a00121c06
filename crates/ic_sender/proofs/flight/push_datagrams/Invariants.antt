use Rattle.std.proofs.Common.{◌≡◌, ◌++◌, map, take}
use Rattle.ic_sender.specs.declared.flight.Flight.{Flight}
use Rattle.ic_sender.proofs.flight.push_datagrams.Given as goal

abbrev pub invariant-loop-flight : goal.invariant-loop-flight
invariant-loop-flight l = l.out.items ≡ l.fn.out.items ++ map (λ (f : Flight). f.datagram) (take l.flight-index l.flights)
