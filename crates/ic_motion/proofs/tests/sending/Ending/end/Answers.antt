use Rattle.ic_motion.proofs.Scripts.{keeps}
use Rattle.ic_motion.proofs.tests.sending.Ending.end.Goals as goal

pub invariant_of-self : goal.invariant_of-self
invariant_of-self c = (keeps c.self.inside.out c.end.new.self c.end.ensures.same c.self.invariant.0, c.end.ensures.idle)
