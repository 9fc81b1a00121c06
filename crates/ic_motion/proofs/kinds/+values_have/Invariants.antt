use Rattle.std.proofs.Common.{length}
use Rattle.ic_motion.proofs.kinds.+values_have.Given as goal

abbrev pub decreases-values_have : goal.decreases-values_have
decreases-values_have l = length l.kinds.now
