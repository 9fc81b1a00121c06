use Rattle.ic_conntab.proofs.Named.{receivers_have_the_motion}
use Rattle.ic_conntab.proofs.Rising.{receivers_rise}
use Rattle.ic_conntab.proofs.place_laws.receivers_have_the_motion.Goals as goal

pub returns-clause-has : goal.returns-clause-has
returns-clause-has c = receivers_have_the_motion

pub returns-clause-rise : goal.returns-clause-rise
returns-clause-rise c = receivers_rise
