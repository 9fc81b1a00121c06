use Rattle.ic_sender.proofs.Answering.{duplicates_stand}
use Rattle.ic_sender.proofs.sender.Sender.on_duplicate.Goals as goal

pub returns-clause-stands : goal.returns-clause-stands
returns-clause-stands c = duplicates_stand c.args.self.now c.args.expiry.now c.args.now c.args.seq c.args.extra c.duplicate.result c.duplicate.new.self c.duplicate.new.expiry c.duplicate.ensures
