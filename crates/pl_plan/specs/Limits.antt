-- What a plan's room and its workers break.
use Rattle.std.specs.Prelude.{ℕ, ◌+◌, ◌*◌, nat_lt, List, [], ◌∷◌, length, map, flat_map, Option, None}
use Rattle.ic_base.specs.declared.settings.Settings.{Settings}
use Rattle.pl_plan.specs.declared.rule.Rule.{Rule}
use Rattle.pl_plan.specs.declared.rule.Rule.TheVariants.{TooWide, TooMany}
use Rattle.pl_plan.specs.declared.layout.MotionRow.{MotionRow}
use Rattle.pl_plan.specs.Rules.{most_bytes, most_workers}
use Rattle.pl_plan.specs.Motions.{Link, links_of}
use Rattle.pl_plan.specs.Layout.{members, motion_in}
use Rattle.pl_plan.specs.Walking.{first_of}

-- how many segments send, of all motions together
abbrev pub senders_in : ℕ → List MotionRow → ℕ
senders_in segments [] = 0
senders_in segments (row ∷ rows) = length (members segments row.senders) + senders_in segments rows

-- the connections of some motions
abbrev pub links_in_rows : ℕ → List MotionRow → List Link
links_in_rows segments rows = flat_map links_of (map (motion_in segments) rows)

abbrev pub room_of : ℕ → Settings → List MotionRow → ℕ
room_of segments settings rows = length (links_in_rows segments rows) * (settings.receive_depth + settings.send_depth + 1) * settings.packet

abbrev pub workers_of : ℕ → List MotionRow → ℕ
workers_of segments rows = 1 + senders_in segments rows + segments + 1

abbrev pub limit_rule : ℕ → ℕ → Option Rule
limit_rule bytes n = first_of (nat_lt most_bytes bytes) (TooWide bytes) (first_of (nat_lt most_workers n) (TooMany n) None)
