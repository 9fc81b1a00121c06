use Rattle.gd_work.proofs.Interleaving.{lets_out_all}
use Rattle.gd_work.proofs.laws.lets_out_all.Goals as goal

pub returns : goal.returns
returns c = lets_out_all
