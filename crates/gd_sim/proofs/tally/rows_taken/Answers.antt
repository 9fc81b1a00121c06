use Rattle.std.proofs.Common.{arith, ◌∙◌}
use Rattle.gd_sim.proofs.Counting.{takes_more, whole_more}
use Rattle.gd_sim.proofs.tally.rows_taken.Goals as goal

pub loop-entry-preserved : goal.loop-entry-preserved
loop-entry-preserved c =
    record {
      counted =
          takes_more c.args.key.now c.args.history.now c.loop-entry.entry-index c.entry-item.result c.loop-entry.count c.taken_by-more.result.0 c.loop-entry-test.true c.entry-item.is
          c.loop-entry.invariant.counted c.taken_by-more.ensures.rows;
      small = omega (arith, c.loop-entry.invariant.small, c.taken_by-more.type_inv.0);
      ended =
          c.either-whole.ensures
          ∙ whole_more c.args.key.now c.args.history.now c.loop-entry.entry-index c.entry-item.result c.loop-entry.whole c.taken_by-more.result.1 c.loop-entry-test.true c.entry-item.is
          c.loop-entry.invariant.ended c.taken_by-more.ensures.last;
    }
