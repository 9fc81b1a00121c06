use Rattle.std.proofs.Common.{sym, subst}
use Rattle.std.specs.Prelude.{IfOk}
use Rattle.ic_timed_sender.specs.declared.due.Due.{Due}
use Rattle.ic_timed_sender.specs.Timed.{TimedState}
use Rattle.ic_timed_sender.specs.Emitted.{AreOutgoing}
use Rattle.ic_timed_sender.specs.Looking.{Looks}
use Rattle.ic_timed_sender.specs.Standing.{KeepsPackets, GivesPacketUp, Tells}
use Rattle.ic_timed_sender.proofs.Spending.{looks_tell, looks_formed, looks_increase}
use Rattle.ic_timed_sender.proofs.Looked.{looks_give}
use Rattle.ic_timed_sender.proofs.timed.TimedSender.due.Goals as goal

pub returns-clause-tells : goal.returns-clause-tells
returns-clause-tells c =
    subst (λ (o : TimedState). Tells o KeepsPackets GivesPacketUp c.look.result) c.self.view_is
    (looks_tell c.self.inside.sender c.self.inside.waits c.self.inside.tick c.self.inside.rows c.look.result c.self.invariant c.bounded.ensures.queue (subst (λ (o : TimedState). Looks o c.look.result) (sym c.self.view_is) c.look.ensures))

pub returns-clause-formed : goal.returns-clause-formed
returns-clause-formed c =
    subst (λ (o : TimedState). IfOk c.look.result (λ (d : Due). AreOutgoing o.sending d.datagrams)) c.self.view_is
    (looks_formed c.self.inside.sender c.self.inside.waits c.self.inside.tick c.self.inside.rows c.look.result c.self.invariant (subst (λ (o : TimedState). Looks o c.look.result) (sym c.self.view_is) c.look.ensures))

pub returns-clause-ok : goal.returns-clause-ok
returns-clause-ok c = looks_give c.args.self.now c.look.result c.look.ensures

pub returns-clause-order : goal.returns-clause-order
returns-clause-order c =
    looks_increase c.self.inside.sender c.self.inside.waits c.self.inside.tick c.self.inside.rows c.look.result c.self.invariant c.bounded.ensures.queue (subst (λ (o : TimedState). Looks o c.look.result) (sym c.self.view_is) c.look.ensures)
