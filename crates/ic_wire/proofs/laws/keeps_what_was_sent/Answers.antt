use Rattle.ic_wire.proofs.Keeping as lemma
use Rattle.ic_wire.proofs.laws.keeps_what_was_sent.Goals as goal

pub returns : goal.returns
returns c = lemma.keeps_what_was_sent
