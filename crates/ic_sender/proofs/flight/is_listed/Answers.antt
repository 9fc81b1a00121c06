use Rattle.std.proofs.Common.{arith}
use Rattle.ic_sender.proofs.Listed.{found_here}
use Rattle.ic_sender.proofs.flight.is_listed.Goals as goal

pub returns-then-number-seq : goal.returns-then-number-seq
returns-then-number-seq c =
    found_here c.args.numbers.now c.loop-number.number-index c.args.seq (omega (arith, c.loop-number-test.true)) c.loop-number.invariant.rises c.loop-number.invariant.same (omega (arith, c.if-number-seq.true))
