use Rattle.std.proofs.Common.{◌≡◌, ◌++◌, drop, filter, nat_lt}
use Rattle.ic_sender.specs.declared.flight.Flight.{Flight}
use Rattle.ic_sender.specs.Sending.{copies}
use Rattle.ic_sender.proofs.flight.push_copies_above.Given as goal

abbrev pub invariant-loop-seq : goal.invariant-loop-seq
invariant-loop-seq l =
    l.out.items ++ copies (filter (λ (f : Flight). nat_lt l.run f.seq) l.flights) (drop l.seq-index l.numbers) ≡ l.fn.out.items ++ copies (filter (λ (f : Flight). nat_lt l.run f.seq) l.flights) l.numbers
