-- How the code keeps copies, and where it finds a node.
use Rattle.std.specs.Prelude.{◌≡◌, ℕ, ℤ, List, [], ◌∷◌, Option, Some, None, ⊤}
use Rattle.std.specs.Ordering.{int_eq}
use Rattle.std.specs.List.{position}
use Rattle.ic_base.specs.declared.datagram.Datagram.{Datagram}
use Rattle.ic_wire.specs.declared.copies.Kept.{Kept}
use Rattle.ic_wire.specs.declared.copies.Copies.{Copies}
use Rattle.ic_wire.specs.declared.copies.Copies.TheVariants.{Lost, One, Two}
use Rattle.ic_wire.specs.declared.received.Received.{Received}
use Rattle.ic_wire.specs.declared.received.Received.TheVariants.{Came, Idle, Quiet}
use Rattle.ic_wire.specs.Wires.{Node}

abbrev pub listed : Copies → List Kept
listed Lost = []
listed (One copy) = copy ∷ []
listed (Two copy again) = copy ∷ again ∷ []

-- the place of the first node that has this segment
abbrev pub place_in : ℤ → List Node → Option ℕ
place_in at nodes = position (λ (n : Node). int_eq n.at at) nodes

abbrev pub first_of : List Kept → Option Datagram
first_of [] = None
first_of (copy ∷ copies) = Some copy.datagram

-- what comes goes to this segment
abbrev pub IsFor : ℤ → Received → Type 0
IsFor at (Came d) = d.to ≡ at
IsFor at Idle = ⊤
IsFor at Quiet = ⊤
