use Rattle.std.proofs.Common.{arith}
use Rattle.gd_sim.proofs.Counting.{count_next, upto_next, at_most_one}
use Rattle.gd_sim.proofs.tally.emitted_in.Goals as goal

pub loop-datagram-preserved : goal.loop-datagram-preserved
loop-datagram-preserved c =
    record {
      counted =
          count_next c.args.key.now c.args.datagrams.now c.loop-datagram.datagram-index c.datagram-item.result c.loop-datagram.count c.with_number.result.0 c.number_in.result c.loop-datagram-test.true c.datagram-item.is
          c.loop-datagram.invariant.counted c.number_in.ensures c.with_number.ensures.count;
      reached =
          upto_next c.args.key.now c.args.datagrams.now c.loop-datagram.datagram-index c.datagram-item.result c.loop-datagram.upto c.with_number.result.1 c.number_in.result c.loop-datagram-test.true c.datagram-item.is
          c.loop-datagram.invariant.reached c.number_in.ensures c.with_number.ensures.upto;
      small = omega (arith, c.loop-datagram.invariant.small, c.with_number.ensures.count, at_most_one c.number_in.result);
    }
