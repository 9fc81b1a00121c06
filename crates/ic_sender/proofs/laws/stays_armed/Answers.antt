use Rattle.ic_sender.proofs.Knowing.{are_armed}
use Rattle.ic_sender.proofs.laws.stays_armed.Goals as goal

pub returns : goal.returns
returns c s held h stands = are_armed s held h stands
