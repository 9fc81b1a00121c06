use Rattle.std.proofs.Common.{length}
use Rattle.ic_motion.proofs.picking.+pick_least.Given as goal

abbrev pub decreases-pick_least : goal.decreases-pick_least
decreases-pick_least l = length l.tracks.now
