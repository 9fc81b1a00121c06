use Rattle.ic_expire.proofs.Holding.{cut_keeps_others}
use Rattle.ic_expire.proofs.laws.cut_keeps_others.Goals as goal

pub returns : goal.returns
returns c = cut_keeps_others
