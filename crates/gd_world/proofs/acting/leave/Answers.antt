use Rattle.gd_world.proofs.Asked.{leave_told}
use Rattle.gd_world.proofs.acting.leave.Goals as goal

pub returns-clause-ok : goal.returns-clause-ok
returns-clause-ok c = leave_told c.leave.result c.args.node.now c.leave.new.self c.leave.ensures.ok
