use Rattle.std.proofs.Common.{◌≡◌, ◌++◌, map, take, drop, slice_set, slice_index_or, ap, sym, ◌∙◌, arith}
use Rattle.ic_sender.specs.declared.flight.Flight.{Flight}
use Rattle.ic_sender.specs.Sending.{tried}
use Rattle.ic_sender.proofs.Writing.{one_written}
use Rattle.ic_sender.proofs.flight.retry_all.Goals as goal

pub loop-flight-preserved : goal.loop-flight-preserved
loop-flight-preserved c =
    let i = c.loop-flight.flight-index in
    let g : Flight → Flight = (tried c.args.numbers.now) in
    let at : c.flight-item.result ≡ slice_index_or (map g (take i c.args.flights.now) ++ drop i c.args.flights.now) i c.flight-item.result =
    c.flight-item.is ∙ ap (λ l. slice_index_or l i c.flight-item.result) c.loop-flight.invariant in
    ap (λ l. slice_set l i c.retry.new.flight) c.loop-flight.invariant
    ∙ ap (slice_set (map g (take i c.args.flights.now) ++ drop i c.args.flights.now) i) c.retry.ensures
    ∙ ap (λ x. slice_set (map g (take i c.args.flights.now) ++ drop i c.args.flights.now) i (g x)) (sym c.flight-item.is)
    ∙ one_written g c.args.flights.now i c.flight-item.result (omega (arith, c.loop-flight-test.true)) at
