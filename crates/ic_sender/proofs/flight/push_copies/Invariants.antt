use Rattle.std.proofs.Common.{◌≡◌, ◌++◌, drop}
use Rattle.ic_sender.specs.Sending.{copies}
use Rattle.ic_sender.proofs.flight.push_copies.Given as goal

abbrev pub invariant-loop-seq : goal.invariant-loop-seq
invariant-loop-seq l = l.out.items ++ copies l.flights (drop l.seq-index l.numbers) ≡ l.fn.out.items ++ copies l.flights l.numbers
