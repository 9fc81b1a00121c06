use Rattle.std.proofs.Common.{◌≡◌, drop}
use Rattle.ic_sender.specs.Listed.{Rises}
use Rattle.ic_sender.specs.Sending.{is_among}
use Rattle.ic_sender.proofs.flight.is_listed.Given as goal

abbrev pub invariant-loop-number : goal.invariant-loop-number
invariant-loop-number l =
    record {
      rises : Rises (drop l.number-index l.numbers);
      same : is_among (drop l.number-index l.numbers) l.seq ≡ is_among l.numbers l.seq;
    }
