use Rattle.ic_hub_laws.proofs.Forms.{answers_formed}
use Rattle.ic_hub_laws.proofs.laws.answers_formed.Goals as goal

pub returns : goal.returns
returns c = answers_formed
