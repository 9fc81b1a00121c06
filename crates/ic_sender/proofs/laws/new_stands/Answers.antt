use Rattle.ic_sender.proofs.Beginning.{begun_stands}
use Rattle.ic_sender.proofs.laws.new_stands.Goals as goal

pub returns : goal.returns
returns c end conn settings held h names checked alone untouched = begun_stands end conn settings held h names checked alone untouched
