use Rattle.ic_hub_laws.proofs.Lives.{left_tops}
use Rattle.ic_hub_laws.proofs.laws.left_tops.Goals as goal

pub returns : goal.returns
returns c = left_tops
