use Rattle.std.proofs.Common.{sym, subst}
use Rattle.ic_timed_sender.specs.declared.due.Due.{Due}
use Rattle.ic_timed_sender.specs.Standing.{KeepsPackets, GivesPacketUp}
use Rattle.ic_hub.specs.Ticking.{RefusedFor}
use Rattle.ic_hub.proofs.Ticking.{refused_for}
use Rattle.ic_hub.proofs.tick.due_of.Goals as goal

pub returns-in-Err-clause-err : goal.returns-in-Err-clause-err
returns-in-Err-clause-err c = subst (RefusedFor GivesPacketUp c.args.sender.now) (sym c.tick_no.ensures) (refused_for Due KeepsPackets GivesPacketUp c.args.sender.now c.in-Err.no c.in-Err.ensures.tells)
