use Rattle.std.proofs.Common.{◌≡◌, ◌++◌, map, take, drop}
use Rattle.ic_sender.specs.Sending.{tried}
use Rattle.ic_sender.proofs.flight.retry_all.Given as goal

abbrev pub invariant-loop-flight : goal.invariant-loop-flight
invariant-loop-flight l = l.flights ≡ map (tried l.numbers) (take l.flight-index l.fn.flights) ++ drop l.flight-index l.fn.flights
