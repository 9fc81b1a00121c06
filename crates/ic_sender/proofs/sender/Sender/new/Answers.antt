use Rattle.std.proofs.Common.{◌≡◌, ℕ, List, [], ap, sym, ◌∙◌, subst}
use Rattle.ic_window.specs.State.{WindowState}
use Rattle.ic_header.specs.Packets.{RowPacket}
use Rattle.ic_sender.specs.declared.flight.Flight.{Flight}
use Rattle.ic_sender.specs.Sending.{Sending, begun}
use Rattle.ic_sender.specs.Standing.{Stands}
use Rattle.ic_sender.specs.Views.{rows_in}
use Rattle.ic_sender.proofs.Beginning.{begun_stands}
use Rattle.ic_sender.proofs.sender.Sender.new.Goals as goal

pub returns-clause-stands : goal.returns-clause-stands
returns-clause-stands c held h alone untouched =
    let b = begun c.args.end c.args.conn c.args.settings.now in
    let made : List ℕ → List RowPacket → List Flight → WindowState → Sending = (λ o k f w. record b { opened = o; kept = k; flights = f; window = w }) in
    let kept : rows_in c.in_ok-ring.ring ≡ [] = ap rows_in c.in_ok-ring.ensures in
    let same : made c.in_ok-opened.opened.items (rows_in c.in_ok-ring.ring) c.in_ok-flights.flights.items c.new.result ≡ b =
    ap (λ o. made o (rows_in c.in_ok-ring.ring) c.in_ok-flights.flights.items c.new.result) c.in_ok-opened.ensures.items
    ∙ ap (λ k. made [] k c.in_ok-flights.flights.items c.new.result) kept ∙ ap (λ f. made [] [] f c.new.result) c.in_ok-flights.ensures.items ∙ ap (made [] [] []) c.new.ensures.value in
    subst (λ (x : Sending). Stands x held h) (sym same) (begun_stands c.args.end c.args.conn c.args.settings.now held h c.named.ensures (record {
      least_packet = c.requires.least_packet;
      greatest_packet = c.requires.greatest_packet;
      least_receive_depth = c.requires.least_receive_depth;
      greatest_receive_depth = c.requires.greatest_receive_depth;
      least_send_depth = c.requires.least_send_depth;
      greatest_send_depth = c.requires.greatest_send_depth;
      least_retries = c.requires.least_retries;
      greatest_retries = c.requires.greatest_retries;
    }) alone untouched)
