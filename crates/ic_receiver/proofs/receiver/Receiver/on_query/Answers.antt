use Rattle.ic_receiver.proofs.Made.{if_ok}
use Rattle.ic_receiver.proofs.Came.{stands_told}
use Rattle.ic_receiver.proofs.receiver.Receiver.on_query.Goals as goal

pub returns-clause-stands : goal.returns-clause-stands
returns-clause-stands c = if_ok c.tell.result _ _ (λ a hears settings h e is stands. stands_told settings c.args.self.now c.args.seq a h e hears is stands) c.tell.ensures
