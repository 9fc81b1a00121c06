use Rattle.ic_sender.proofs.Knowing.{are_armed}
use Rattle.ic_hub.proofs.laws.stays_armed.Goals as goal

pub returns : goal.returns
returns c s h stands q i l o here at = are_armed o.sending o.held h ((stands.each q l here).senders i o at).sends
