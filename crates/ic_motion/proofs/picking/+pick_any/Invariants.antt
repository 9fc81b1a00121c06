use Rattle.std.proofs.Common.{length}
use Rattle.ic_motion.proofs.picking.+pick_any.Given as goal

abbrev pub decreases-pick_any : goal.decreases-pick_any
decreases-pick_any l = length l.tracks.now
