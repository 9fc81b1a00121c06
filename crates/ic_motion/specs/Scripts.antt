-- The connections of the worker in this crate's tests: it stands at segment 0, sends in motion 1 to segments 0 and 1, and hears both in
-- motion 2.
use Rattle.std.specs.Prelude.{ℕ, ℤ, pos, List, [], ◌∷◌, Bool, true, false}
use Rattle.ic_base.specs.declared.keys.ConnEnd.{ConnEnd}

abbrev pub end_of : ℕ → ℤ → ℤ → Bool → ConnEnd
end_of motion from to sending = record { key = record { session = 7; query = 1; motion = motion; from = from; to = to }; sending = sending; send_slice = motion; recv_slice = 0 }

abbrev pub script_ends : List ConnEnd
script_ends = end_of 1 (pos 0) (pos 0) true ∷ end_of 1 (pos 0) (pos 1) true ∷ end_of 2 (pos 0) (pos 0) false ∷ end_of 2 (pos 1) (pos 0) false ∷ []
