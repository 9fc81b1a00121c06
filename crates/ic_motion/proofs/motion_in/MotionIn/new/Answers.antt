use Rattle.std.proofs.Common.{◌≡◌, map, subst}
use Rattle.ic_motion.specs.Hearing.{fresh_lane}
use Rattle.ic_motion.proofs.Fresh.{fresh_hears}
use Rattle.ic_motion.proofs.motion_in.MotionIn.new.Goals as goal

pub returns-clause-hears : goal.returns-clause-hears
returns-clause-hears c = λ steps unheard.
    fresh_hears c.args.end c.args.senders c.args.order c.args.kinds c.in_ok-tracks.field-0.items steps c.requires
    (subst (λ l. c.in_ok-tracks.field-0.items ≡ map fresh_lane l) c.as_slice.ensures c.in_ok-tracks.ensures) unheard
