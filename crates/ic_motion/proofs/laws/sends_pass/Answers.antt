use Rattle.ic_motion.proofs.Passing.{sends_passed}
use Rattle.ic_motion.proofs.laws.sends_pass.Goals as goal

pub returns : goal.returns
returns c = sends_passed
