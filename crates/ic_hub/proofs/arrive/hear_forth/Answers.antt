use Rattle.std.proofs.Common.{Ok, refl, ap}
use Rattle.ic_hub.specs.Coming.{Forth}
use Rattle.ic_hub.proofs.ComingSteps.{forth_without}
use Rattle.ic_hub.proofs.arrive.hear_forth.Goals as goal

pub returns-in_err-room : goal.returns-in_err-room
returns-in_err-room c = forth_without c.args.head.now c.args.body.now c.args.receiver.now c.args.receiver.now c.from_residual.result c.from_residual.ensures.0 refl

pub returns-in_err-answer : goal.returns-in_err-answer
returns-in_err-answer c =
    forth_without c.args.head.now c.args.body.now c.args.receiver.now c.ask.new.receiver c.from_residual-in_err-answer.result c.from_residual-in_err-answer.ensures.0 c.in_err-answer.ensures.memory

pub returns : goal.returns
returns c = Forth c.in_ok-answer.answer (ap Ok c.told.ensures) c.in_ok-answer.ensures.asks
