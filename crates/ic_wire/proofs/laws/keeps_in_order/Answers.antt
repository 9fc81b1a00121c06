use Rattle.ic_wire.proofs.Keeping as lemma
use Rattle.ic_wire.proofs.laws.keeps_in_order.Goals as goal

pub returns : goal.returns
returns c = lemma.keeps_in_order
