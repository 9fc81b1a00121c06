use Rattle.ic_expire.proofs.Holding.{put_keeps_others}
use Rattle.ic_expire.proofs.laws.put_keeps_others.Goals as goal

pub returns : goal.returns
returns c = put_keeps_others
