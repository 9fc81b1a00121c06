use Rattle.ic_motion.proofs.Receivers.{finished_there}
use Rattle.ic_motion.proofs.ending.finish.Goals as goal

pub returns : goal.returns
returns c = finished_there c.args.targets.now.items c.args.place c.index_mut.result.now c.finish.new.self c.requires c.index_mut.ensures.value c.finish.ensures
