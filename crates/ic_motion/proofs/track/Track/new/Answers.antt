use Rattle.ic_motion.proofs.Places.{new_lane}
use Rattle.ic_motion.proofs.track.Track.new.Goals as goal

pub returns : goal.returns
returns c = new_lane c.args.sender c.new.result c.new-2.result.items c.new.ensures.value c.new-2.ensures.items
