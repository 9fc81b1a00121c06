use Rattle.ic_motion.proofs.Scripts.{listens}
use Rattle.ic_motion.proofs.tests.receiving.Hearing.halt.Goals as goal

pub invariant_of-self : goal.invariant_of-self
invariant_of-self c = listens c.self.inside.heard c.halt_all.new.self c.halt_all.ensures.same c.halt_all.ensures.senders c.self.invariant
