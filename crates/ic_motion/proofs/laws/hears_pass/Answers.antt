use Rattle.ic_motion.proofs.Passing.{hears_passed}
use Rattle.ic_motion.proofs.laws.hears_pass.Goals as goal

pub returns : goal.returns
returns c = hears_passed
