use Rattle.std.proofs.Common.{◌≡◌, map, drop}
use Rattle.ic_sender.specs.declared.flight.Flight.{Flight}
use Rattle.ic_sender.specs.Sending.{waiting}
use Rattle.ic_sender.specs.Views.{MayWait}
use Rattle.ic_sender.proofs.waiting.wait_all.Given as goal

abbrev pub invariant-loop-flight : goal.invariant-loop-flight
invariant-loop-flight l =
    record {
      may : MayWait l.conn (map (λ (f : Flight). f.seq) (drop l.flight-index l.flights)) l.expiry;
      held : waiting l.conn l.due (map (λ (f : Flight). f.seq) (drop l.flight-index l.flights)) l.expiry.held ≡ waiting l.conn l.due (map (λ (f : Flight). f.seq) l.flights) l.fn.expiry.held;
      asked : l.expiry.asked ≡ l.fn.expiry.asked;
      room : l.expiry.room ≡ l.fn.expiry.room;
    }
