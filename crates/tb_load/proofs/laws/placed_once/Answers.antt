use Rattle.tb_load.proofs.Loaded.{placed_once}
use Rattle.tb_load.proofs.laws.placed_once.Goals as goal

pub returns : goal.returns
returns c = placed_once
