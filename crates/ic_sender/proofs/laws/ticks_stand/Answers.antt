use Rattle.ic_sender.proofs.Ticking.{ticks_stand}
use Rattle.ic_sender.proofs.laws.ticks_stand.Goals as goal

pub returns : goal.returns
returns c s held now mine new left h e ticks clock is old = ticks_stand s held now mine new left h e ticks clock is old
