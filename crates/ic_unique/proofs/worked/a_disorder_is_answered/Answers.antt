use Rattle.ic_unique.proofs.Stories.{disordered_forced}
use Rattle.ic_unique.proofs.worked.a_disorder_is_answered.Goals as goal

pub returns : goal.returns
returns c = disordered_forced
