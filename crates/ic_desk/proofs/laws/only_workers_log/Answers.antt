use Rattle.ic_desk.proofs.Quiet.{drivers_log_none}
use Rattle.ic_desk.proofs.laws.only_workers_log.Goals as goal

pub returns : goal.returns
returns c = drivers_log_none
