use Rattle.pl_runs.proofs.Apart as lemma
use Rattle.pl_runs.proofs.laws.slices_are_apart.Goals as goal

pub returns : goal.returns
returns c = lemma.slices_are_apart
