use Rattle.gd_sim.proofs.Sending.{keeps_same, keeps_sent}
use Rattle.gd_sim.proofs.sim.send.Goals as goal

pub returns-in_err-send : goal.returns-in_err-send
returns-in_err-send c = keeps_same c.args.datagrams.now c.args.network.now c.loop-datagram.network c.send.new.self c.in_err-send.ensures.err c.loop-datagram.invariant

pub loop-datagram-preserved : goal.loop-datagram-preserved
loop-datagram-preserved c =
    keeps_sent c.args.datagrams.now c.args.network.now c.loop-datagram.network c.send.new.self c.loop-datagram.datagram-index c.datagram-item.result c.in_ok-share.field-0 c.loop-datagram.invariant
    c.loop-datagram-test.true c.datagram-item.is c.in_ok-share.ensures c.in_ok-send.ensures.ok
