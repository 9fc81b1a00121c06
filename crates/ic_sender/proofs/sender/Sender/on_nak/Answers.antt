use Rattle.ic_sender.proofs.Answering.{naks_stand}
use Rattle.ic_sender.proofs.sender.Sender.on_nak.Goals as goal

pub returns-clause-stands : goal.returns-clause-stands
returns-clause-stands c = λ extra. naks_stand c.args.self.now c.args.expiry.now c.args.now c.args.seq extra c.nak.result c.nak.new.self c.nak.new.expiry c.nak.ensures
