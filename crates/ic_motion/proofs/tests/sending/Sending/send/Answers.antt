use Rattle.ic_motion.proofs.Scripts.{keeps}
use Rattle.ic_motion.proofs.tests.sending.Sending.send.Goals as goal

pub invariant_of-self : goal.invariant_of-self
invariant_of-self c = (keeps c.self.inside.out c.send.new.self c.send.ensures.same c.self.invariant.0, c.send.ensures.open_)
