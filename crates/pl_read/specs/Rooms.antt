-- Room for so many things, of which some are taken.
use Rattle.std.specs.Prelude.{ℕ, ◌-◌, nat_le, if◌then◌else◌, Option, Some, None}

-- what is left, or nothing if they are more
abbrev pub left_of : ℕ → ℕ → Option ℕ
left_of room taken = if nat_le taken room then Some (room - taken) else None
