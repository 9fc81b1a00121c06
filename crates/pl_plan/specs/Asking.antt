-- The ends of connections, added one motion, one sender and one receiver after the other.
use Rattle.std.specs.Prelude.{ℕ, ℤ, Bool, true, false, List, [], ◌++◌, map, flat_map}
use Rattle.ic_base.specs.declared.keys.ConnEnd.{ConnEnd}
use Rattle.pl_plan.specs.declared.layout.MotionRow.{MotionRow}
use Rattle.pl_plan.specs.declared.ends.Asked.{Asked}
use Rattle.pl_plan.specs.declared.ends.Between.{Between}
use Rattle.pl_plan.specs.Layout.{members}
use Rattle.pl_plan.specs.Ends as ends

abbrev pub end_of : Asked → Between → Bool → ConnEnd
end_of asked link sending = record { key = record { session = asked.session; query = asked.query; motion = link.motion; from = link.from; to = link.to }; sending = sending; send_slice = link.motion; recv_slice = link.above }

abbrev pub is_at : ℤ → ℤ → Bool
is_at at segment = ends.is_at at segment

abbrev pub end_if : Bool → ConnEnd → List ConnEnd
end_if wanted one = ends.end_if wanted one

abbrev pub ends_of : Asked → Between → List ConnEnd
ends_of asked link = end_if (is_at asked.at link.from) (end_of asked link true) ++ end_if (is_at asked.at link.to) (end_of asked link false)

abbrev pub between : MotionRow → ℤ → ℤ → Between
between row from to = record { motion = row.number; above = row.above; from = from; to = to }

abbrev pub sender_ends : Asked → MotionRow → List ℤ → ℤ → List ConnEnd
sender_ends asked row receivers from = flat_map (ends_of asked) (map (between row from) receivers)

abbrev pub motion_ends : ℕ → Asked → MotionRow → List ConnEnd
motion_ends segments asked row = flat_map (sender_ends asked row (members segments row.receivers)) (members segments row.senders)
