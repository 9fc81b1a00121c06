use Rattle.std.proofs.Common.{arith}
use Rattle.gd_sim.proofs.Counting.{puts_more}
use Rattle.gd_sim.proofs.tally.rows_sent.Goals as goal

pub loop-entry-preserved : goal.loop-entry-preserved
loop-entry-preserved c =
    record {
      counted =
          puts_more c.args.key.now c.args.history.now c.loop-entry.entry-index c.entry-item.result c.loop-entry.count c.sent_by.result c.loop-entry-test.true c.entry-item.is
          c.loop-entry.invariant.counted c.sent_by.ensures;
      small = omega (arith, c.loop-entry.invariant.small, c.sent_by.type_inv);
    }
