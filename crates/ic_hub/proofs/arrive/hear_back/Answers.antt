use Rattle.ic_hub.proofs.ComingSteps.{back_heard, back_without}
use Rattle.ic_hub.proofs.arrive.hear_back.Goals as goal

pub returns-in-Ok : goal.returns-in-Ok
returns-in-Ok c =
    back_heard c.args.head.now c.args.body.now c.args.sender.now c.hear.new.self c.hear.result c.in-Ok.datagrams c.in-Ok.is c.hear.ensures.end c.hear.ensures.now c.hear.ensures.formed c.hear.ensures.stands

pub returns-in-Err : goal.returns-in-Err
returns-in-Err c = back_without c.args.head.now c.args.body.now c.args.sender.now c.hear.new.self (record {}) c.hear.result c.in-Err.field-0 c.in-Err.is c.hear.ensures.err
