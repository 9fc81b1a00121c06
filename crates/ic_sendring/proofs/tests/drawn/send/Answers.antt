use Rattle.std.proofs.Common.{sym, ap}
use Rattle.ic_sendring.specs.Ring.{Ring}
use Rattle.ic_sendring.proofs.tests.drawn.send.Goals as goal

pub returns-in-Some : goal.returns-in-Some
returns-in-Some c = ap (λ (t : Ring). t.packet) (c.sent.ensures.next (record { seq = c.in-Some._next.seq; last = c.in-Some._next.last; payload = c.in-Some._next.payload.now }) (sym c.in-Some.ensures.value))
