use Rattle.ic_sender.proofs.Answering.{disorders_stand}
use Rattle.ic_sender.proofs.sender.Sender.on_disorder.Goals as goal

pub returns-clause-stands : goal.returns-clause-stands
returns-clause-stands c = disorders_stand c.args.self.now c.args.expiry.now c.args.now c.args.seq c.args.extra c.args.missing.now c.disorder.result c.disorder.new.self c.disorder.new.expiry c.requires.allowed.0 c.requires.allowed.1 c.disorder.ensures
