use Rattle.std.proofs.Common.{subst}
use Rattle.ic_recvring.specs.Ring.{IsRing}
use Rattle.ic_recvring.proofs.Sound.{is_ring}
use Rattle.ic_recvring.proofs.ring.RecvRing.run_end.Goals as goal

pub returns-clause-ring : goal.returns-clause-ring
returns-clause-ring c = let s = c.self.inside in subst IsRing c.self.view_is (is_ring s.depth s.packet s.consumed s.run s.top s.slots.items c.self.invariant)
