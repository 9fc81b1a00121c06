use Rattle.ic_motion.proofs.Places.{halted_there}
use Rattle.ic_motion.proofs.halting.halt.Goals as goal

pub returns : goal.returns
returns c = halted_there c.args.tracks.now.items c.args.place c.index_mut.result.now c.halt.new.self c.requires c.index_mut.ensures.value c.halt.ensures
