use Rattle.std.proofs.Common.{◌≡◌, ◌==◌, ◌&&◌, drop}
use Rattle.std.specs.Prelude.{find}
use Rattle.std.specs.List.{list_any}
use Rattle.ic_sender.specs.declared.flight.Flight.{Flight}
use Rattle.ic_sender.proofs.ticks.first_spent.Given as goal

abbrev pub invariant-loop-seq : goal.invariant-loop-seq
invariant-loop-seq l =
    find (λ n. list_any (λ (f : Flight). (f.seq == n) && (f.tries == l.retries)) l.flights) (drop l.seq-index l.seqs) ≡ find (λ n. list_any (λ (f : Flight). (f.seq == n) && (f.tries == l.retries)) l.flights) l.seqs
