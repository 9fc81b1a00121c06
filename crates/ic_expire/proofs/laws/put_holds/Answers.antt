use Rattle.ic_expire.proofs.Holding.{put_holds}
use Rattle.ic_expire.proofs.laws.put_holds.Goals as goal

pub returns : goal.returns
returns c = put_holds
