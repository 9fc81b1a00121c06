-- What a seat at the table of a turn knows, and how it is given away and taken in.
use Rattle.std.specs.Prelude.{◌≡◌, ℕ, ◌-◌, ◌<◌, List, [], ◌∷◌, ◌++◌, length, Some, None}
use Rattle.atomic_table.specs.Table.{Me}
use Rattle.ic_turn.specs.declared.view.Placed.{Placed}
use Rattle.ic_turn.specs.declared.view.Numbered.{Numbered}
use Rattle.ic_turn.specs.declared.view.Part.{Part}
use Rattle.ic_turn.specs.declared.view.View.{View}
use Rattle.ic_turn.specs.declared.view.Stage.{Stage}
use Rattle.ic_turn.specs.declared.view.Stage.TheVariants.{Idle, Ended}
use Rattle.ic_turn.specs.Parts.{blank, blank_down}

module _ {A R : Type 0} where
  -- its own part, then those that it may give, then those that were joined into it
  abbrev pub with_spares : ℕ → List (Part A R) → List (Part A R)
  with_spares n [] = []
  with_spares n (p ∷ ps) = p ∷ (blank_down n ++ ps)

  abbrev pub longer : Placed A R → Part A R → Part A R
  longer c p = record { number = p.number; entries = p.entries ++ c ∷ [] }

  -- the entry is added to the first part
  abbrev pub with_own : Placed A R → List (Part A R) → List (Part A R)
  with_own c [] = []
  with_own c (p ∷ ps) = longer c p ∷ ps

  abbrev pub own_number : List (Part A R) → ℕ
  own_number [] = 0
  own_number (p ∷ ps) = p.number

  abbrev pub own_entries : List (Part A R) → List (Placed A R)
  own_entries [] = []
  own_entries (p ∷ ps) = p.entries

  abbrev pub others_of : List (Part A R) → List (Part A R)
  others_of [] = []
  others_of (p ∷ ps) = ps

-- the list that was read off
abbrev pub list_of : {A R S : Type 0} → Stage A R S → List (Numbered A R)
list_of (Ended list) = list
list_of _ = []

module _ {A R K S : Type 0} where
  -- all that it holds
  abbrev pub held_of : View A R K S → List (Part A R)
  held_of v = with_spares v.spare v.parts

  -- the first view
  abbrev pub opening_view : K → ℕ → View A R K S
  opening_view kept n = record { stage = Idle; kept = Some kept; passes = n; met = 0; spare = n - 1; parts = blank 0 ∷ [] }

  -- a view that gave away its greatest spare number
  abbrev pub giver_view : View A R K S → View A R K S
  giver_view v = record v { spare = v.spare - 1 }

  -- the view that has this number
  abbrev pub given_view : View A R K S → View A R K S
  given_view v = record { stage = Idle; kept = v.kept; passes = v.passes; met = 0; spare = 0; parts = blank v.spare ∷ [] }

  -- a view that took in another
  abbrev pub both_views : View A R K S → View A R K S → View A R K S
  both_views v w = record v { parts = v.parts ++ held_of w }

  -- what is left of the other
  abbrev pub gone : View A R K S
  gone = record { stage = Idle; kept = None; passes = 0; met = 0; spare = 0; parts = [] }

  -- it is in no call, has nothing out of its slot, and wasn't joined away
  abbrev pub IsIdle : {B : Type 0} → Me B (View A R K S) → Type 0
  IsIdle m = (m.0.stage ≡ Idle) × (m.1 ≡ []) × (0 < length m.0.parts)
