use Rattle.std.proofs.Common.{sym, subst}
use Rattle.gd_sim.specs.Stations.{EndsSo}
use Rattle.gd_sim.proofs.Turning.{works_once, sent_cause}
use Rattle.gd_sim.proofs.station.send_on.Goals as goal

pub returns-in-Err-clause-cause : goal.returns-in-Err-clause-cause
returns-in-Err-clause-cause c =
    subst (EndsSo c.turn.new.port.entries) (sym c.work_fault.ensures)
    (sent_cause c.args.node.now c.turn.new.port _ _ _ _ _ c.turn.result c.in-Err.no (works_once c.args.node.now c.turn.new.port c.turn.ensures.steps) (c.turn.ensures.puts (sym c.in-Going.ensures)) c.in-Err.is)
