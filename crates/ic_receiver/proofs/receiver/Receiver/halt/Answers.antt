use Rattle.ic_receiver.proofs.Made.{if_ok}
use Rattle.ic_receiver.proofs.Others.{stands_halted}
use Rattle.ic_receiver.proofs.receiver.Receiver.halt.Goals as goal

pub returns-clause-stands : goal.returns-clause-stands
returns-clause-stands c = if_ok c.stop.result _ _ (λ a halts settings h e is stands. stands_halted settings c.args.self.now c.stop.new.self a h e halts is stands) c.stop.ensures.halts
