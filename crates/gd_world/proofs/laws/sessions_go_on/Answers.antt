use Rattle.gd_world.proofs.Networks.{sessions_go_on}
use Rattle.gd_world.proofs.laws.sessions_go_on.Goals as goal

pub returns : goal.returns
returns c = sessions_go_on
