use Rattle.ic_motion.proofs.Receivers.{stopped_there}
use Rattle.ic_motion.proofs.putting.stop.Goals as goal

pub returns : goal.returns
returns c = stopped_there c.args.targets.now.items c.args.place c.index_mut.result.now c.stop.new.self c.requires c.index_mut.ensures.value c.stop.ensures
