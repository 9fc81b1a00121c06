use Rattle.ic_sender.proofs.Answering.{acks_stand}
use Rattle.ic_sender.proofs.sender.Sender.on_ack.Goals as goal

pub returns-clause-stands : goal.returns-clause-stands
returns-clause-stands c = acks_stand c.args.self.now c.args.expiry.now c.args.now c.args.seq c.args.extra c.ack.result c.ack.new.self c.ack.new.expiry c.ack.ensures
