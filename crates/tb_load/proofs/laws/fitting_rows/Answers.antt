use Rattle.tb_load.proofs.Fitted.{fitting_rows}
use Rattle.tb_load.proofs.laws.fitting_rows.Goals as goal

pub returns : goal.returns
returns c = fitting_rows
