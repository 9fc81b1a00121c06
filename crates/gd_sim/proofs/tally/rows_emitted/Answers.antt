use Rattle.std.proofs.Common.{arith, ◌∙◌, ap, length, map}
use Rattle.std.specs.List.{flat_map}
use Rattle.ic_law.specs.History.{rows_in, number_of, greatest}
use Rattle.gd_sim.proofs.Counting.{count_emitted, upto_emitted}
use Rattle.gd_sim.proofs.tally.rows_emitted.Goals as goal

pub loop-entry-preserved : goal.loop-entry-preserved
loop-entry-preserved c =
    record {
      counted =
          count_emitted c.args.key.now c.args.history.now c.loop-entry.entry-index c.entry-item.result c.loop-entry.count c.emitted_in-more.result.0 c.loop-entry-test.true c.entry-item.is
          c.loop-entry.invariant.counted (c.emitted_in-more.ensures.count ∙ ap (λ ds. length (flat_map (rows_in c.args.key.now) ds)) c.datagrams.ensures);
      reached =
          c.greater-upto.ensures
          ∙ upto_emitted c.args.key.now c.args.history.now c.loop-entry.entry-index c.entry-item.result c.loop-entry.upto c.emitted_in-more.result.1 c.loop-entry-test.true c.entry-item.is
          c.loop-entry.invariant.reached (c.emitted_in-more.ensures.upto ∙ ap (λ ds. greatest (map number_of (flat_map (rows_in c.args.key.now) ds))) c.datagrams.ensures);
      small = omega (arith, c.loop-entry.invariant.small, c.emitted_in-more.type_inv.0);
    }
