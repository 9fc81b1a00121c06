use Rattle.std.proofs.Common.{◌≡◌, ◌++◌, map, take, drop}
use Rattle.ic_sender.specs.Sending.{marked, named}
use Rattle.ic_sender.proofs.flight.hear_all.Given as goal

abbrev pub invariant-loop-flight : goal.invariant-loop-flight
invariant-loop-flight l = l.flights ≡ map (λ f. marked l.lists (named l.names f)) (take l.flight-index l.fn.flights) ++ drop l.flight-index l.fn.flights
