use Rattle.std.proofs.Common.{List, sym, subst}
use Rattle.ic_base.specs.declared.datagram.Datagram.{Datagram}
use Rattle.ic_timed_sender.specs.Standing.{KeepsQuery, GivesQueryUp}
use Rattle.ic_hub.specs.Ticking.{RefusedFor}
use Rattle.ic_hub.proofs.Ticking.{refused_for}
use Rattle.ic_hub.proofs.tick.query_of.Goals as goal

pub returns-in-Err-clause-err : goal.returns-in-Err-clause-err
returns-in-Err-clause-err c = subst (RefusedFor GivesQueryUp c.args.sender.now) (sym c.tick_no.ensures) (refused_for (List Datagram) KeepsQuery GivesQueryUp c.args.sender.now c.in-Err.no c.in-Err.ensures.tells)
