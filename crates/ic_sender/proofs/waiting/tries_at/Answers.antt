use Rattle.std.proofs.Common.{◌≡◌, ◌≤◌, ◌==◌, ap, sym, ◌∙◌}
use Rattle.std.specs.Option.{option_map}
use Rattle.std.specs.Prelude.{Some}
use Rattle.ic_sender.specs.declared.flight.Flight.{Flight}
use Rattle.ic_sender.specs.Sending.{flight_at}
use Rattle.ic_sender.proofs.MayWaiting.{found_has}
use Rattle.ic_sender.proofs.waiting.tries_at.Goals as goal

pub returns-in-Some-clause-few : goal.returns-in-Some-clause-few
returns-in-Some-clause-few c =
    let found : flight_at c.args.flights.now c.args.seq ≡ Some c.in-Some.flight.now = sym c.find.ensures ∙ ap (option_map (λ f. f.now)) c.in-Some.is in
    found_has (λ (f : Flight). f.tries ≤ 1000) (λ (f : Flight). f.seq == c.args.seq) c.args.flights.now c.in-Some.flight.now c.requires found
