use Rattle.pl_answers.proofs.Growth.{grows}
use Rattle.pl_answers.proofs.laws.outputs_grow.Goals as goal

pub returns : goal.returns
returns c = λ s old new n tree at h. grows s old new n tree at h
