use Rattle.ic_recvring.specs.Ring.{Packet}
use Rattle.ic_receiver.proofs.Made.{if_ok}
use Rattle.ic_receiver.proofs.Came.{stands_heard}
use Rattle.ic_receiver.proofs.receiver.Receiver.on_packet.Goals as goal

pub returns-clause-stands : goal.returns-clause-stands
returns-clause-stands c =
    let q : Packet = record { seq = c.args.seq; last = c.args.last; payload = c.args.payload.now } in
    if_ok c.hear.result _ _ (λ a hears settings h e is stands. stands_heard settings c.args.self.now c.hear.new.self q a h e hears is stands) c.hear.ensures.hears
