use Rattle.std.proofs.Common.{◌≡◌, ◌≤◌, length}
use Rattle.ic_sendring.specs.Ring.{behind}
use Rattle.ic_sendring.proofs.ring.SendRing.acked.Given as goal

abbrev pub invariant-loop-self : goal.invariant-loop-self
invariant-loop-self l = (behind l.upto l.self.kept ≡ behind l.upto l.fn.self.kept) × (l.self ≡ record l.fn.self { kept = l.self.kept }) × (length l.self.kept ≤ length l.fn.self.kept)

abbrev pub decreases-loop-self : goal.decreases-loop-self
decreases-loop-self l = length l.self.kept
