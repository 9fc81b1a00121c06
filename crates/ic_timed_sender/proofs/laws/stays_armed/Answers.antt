use Rattle.ic_sender.proofs.Knowing.{are_armed}
use Rattle.ic_timed_sender.proofs.laws.stays_armed.Goals as goal

pub returns : goal.returns
returns c o h old = are_armed o.sending o.held h old.sends
