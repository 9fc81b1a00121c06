-- Receivers stay the same.
use Rattle.std.proofs.Common.{◌≡◌, ℕ, List, Result, Ok, Err, ap, ◌∙◌}
use Rattle.ic_base.specs.declared.keys.ConnEnd.{ConnEnd}
use Rattle.ic_base.specs.declared.port.PortNo.{PortNo}
use Rattle.ic_base.specs.declared.port.PortNo.TheVariants.{Full, Empty, Stopped, Ended, TooLong, Busy, Memory}
use Rattle.ic_base.specs.declared.port.PortEntry.{PortEntry}
use Rattle.pl_ops.specs.Rows.{Line}
use Rattle.pl_ops.specs.Routing.{Route}
use Rattle.ic_motion.specs.declared.answers.Sent.{Sent}
use Rattle.ic_motion.specs.declared.answers.MotionNo.{MotionNo}
use Rattle.ic_motion.specs.Sending.{Target, Work, receivers_of}
use Rattle.ic_motion.specs.Putting.{PutsBy, Sending, all_did, lacks, fails, skips, puts, EndsBy, Ending, had_stopped, was_over, ends}
use Rattle.ic_motion.proofs.Sending.{stop_receivers, finish_receivers}

puts_receivers : (targets after : List Target) (old new : Work) (result : Result Sent MotionNo) (answer : Result (Unit {0}) PortNo) → PutsBy targets after old new result answer → receivers_of after ≡ receivers_of targets
puts_receivers targets after old new result (Ok _) w = ap receivers_of w.0
puts_receivers targets after old new result (Err Stopped) w = ap receivers_of w.0 ∙ stop_receivers old.at targets
puts_receivers targets after old new result (Err Full) w = ap receivers_of w.0
puts_receivers targets after old new result (Err Busy) w = ap receivers_of w.0
puts_receivers targets after old new result (Err (TooLong key)) w = ap receivers_of w.0
puts_receivers targets after old new result (Err Empty) w = ap receivers_of w.0
puts_receivers targets after old new result (Err Ended) w = ap receivers_of w.0
puts_receivers targets after old new result (Err Memory) w = ap receivers_of w.0

pub send_receivers : (keys : List ConnEnd) (motion : ℕ) (route : Route) (packet : ℕ) (targets after : List Target) (row : Line) (old new : Work) (log now : List PortEntry) (result : Result Sent MotionNo) → Sending keys motion route packet targets after row old new log now result → receivers_of after ≡ receivers_of targets
send_receivers keys motion route packet targets after row old new log now result (all_did all same made entry told) = ap receivers_of same
send_receivers keys motion route packet targets after row old new log now result (lacks open_ same kept entry told) = ap receivers_of same
send_receivers keys motion route packet targets after row old new log now result (fails w open_ begun left same entry told) = ap receivers_of same
send_receivers keys motion route packet targets after row old new log now result (skips w v open_ begun settles made same entry told) = ap receivers_of same
send_receivers keys motion route packet targets after row old new log now result (puts w v open_ begun settles p) = puts_receivers targets after v new result p.answer p.makes

ends_receivers : (targets after : List Target) (k : ℕ) (result : Result Sent MotionNo) (answer : Result (Unit {0}) PortNo) → EndsBy targets after k result answer → receivers_of after ≡ receivers_of targets
ends_receivers targets after k result (Ok _) w = ap receivers_of w.0 ∙ finish_receivers k targets
ends_receivers targets after k result (Err Stopped) w = ap receivers_of w.0 ∙ stop_receivers k targets
ends_receivers targets after k result (Err Full) w = ap receivers_of w.0
ends_receivers targets after k result (Err Busy) w = ap receivers_of w.0
ends_receivers targets after k result (Err (TooLong key)) w = ap receivers_of w.0
ends_receivers targets after k result (Err Empty) w = ap receivers_of w.0
ends_receivers targets after k result (Err Ended) w = ap receivers_of w.0
ends_receivers targets after k result (Err Memory) w = ap receivers_of w.0

pub end_receivers : (keys : List ConnEnd) (motion : ℕ) (targets after : List Target) (log now : List PortEntry) (result : Result Sent MotionNo) → Ending keys motion targets after log now result → receivers_of after ≡ receivers_of targets
end_receivers keys motion targets after log now result (had_stopped all same entry told) = ap receivers_of same
end_receivers keys motion targets after log now result (was_over open_ over same entry told) = ap receivers_of same
end_receivers keys motion targets after log now result (ends k t answer open_ at over entry may by) = ends_receivers targets after k result answer by
