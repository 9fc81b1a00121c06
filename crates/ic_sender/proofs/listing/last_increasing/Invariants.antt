use Rattle.std.proofs.Common.{◌≡◌, drop}
use Rattle.ic_law.specs.Numbers.{IsIncreasingFrom, last_or}
use Rattle.ic_sender.proofs.listing.last_increasing.Given as goal

abbrev pub invariant-loop-number : goal.invariant-loop-number
invariant-loop-number l =
    record {
      to : IsIncreasingFrom l.least (drop l.number-index l.numbers) → IsIncreasingFrom 1 l.numbers;
      from : IsIncreasingFrom 1 l.numbers → IsIncreasingFrom l.least (drop l.number-index l.numbers);
      end : last_or l.last (drop l.number-index l.numbers) ≡ last_or 0 l.numbers;
    }
