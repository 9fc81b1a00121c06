-- What callers see of a pass, and what the calls of a turn do to it.
use Rattle.std.specs.Prelude.{◌≡◌, ℕ, ◌+◌, ◌-◌, List, [], ◌∷◌, ◌++◌, length, Some}
use Rattle.atomic_table.specs.Seated.{TableId}
use Rattle.atomic_table.specs.Table.{Me}
use Rattle.ic_turn.specs.declared.view.Placed.{Placed}
use Rattle.ic_turn.specs.declared.view.Part.{Part}
use Rattle.ic_turn.specs.declared.view.View.{View}
use Rattle.ic_turn.specs.Parts.{placed, blank_down, HasAll}
use Rattle.ic_turn.specs.Views.{own_number, own_entries, others_of, IsIdle}

-- a turn
pub record Turning (K : Type 0) : Type 0 where
  pub id : TableId
  -- what its machine keeps
  pub kept : K
  -- how many numbers its passes have
  pub passes : ℕ

-- a pass
pub record Passing (A R K : Type 0) : Type 0 where
  -- the turn that it is of
  pub turn : Turning K
  pub number : ℕ
  -- it may still give the numbers from 1 to this one
  pub spare : ℕ
  -- the entries of its own calls, oldest first, each with its place in the list of the turn
  pub mine : List (Placed A R)
  -- how often it found another pass in its call, or the numbers of entries at their end
  pub met : ℕ
  -- what the passes held that were joined into it
  pub joined : List (Part A R)

module _ {A R K : Type 0} where
  -- what it holds: its own part, the parts of the numbers that it may give, and what was joined into it
  abbrev pub held : Passing A R K → List (Part A R)
  held p = record { number = p.number; entries = p.mine } ∷ (blank_down p.spare ++ p.joined)

  -- it holds all numbers, so that no other pass can call
  abbrev pub HoldsAll : Passing A R K → Type 0
  HoldsAll p = HasAll p.turn.passes (held p)

  -- the first pass of a turn
  abbrev pub opening_pass : Turning K → Passing A R K
  opening_pass turn = record { turn = turn; number = 0; spare = turn.passes - 1; mine = []; met = 0; joined = [] }

  -- an entry of its own is added, and nothing was met
  abbrev pub Adds : Passing A R K → A → R → Passing A R K → Type 0
  Adds p ask reply q = (place : ℕ) × (q ≡ record p { mine = p.mine ++ placed place ask reply ∷ [] })

  -- an entry of its own is added, after others were met so often
  abbrev pub Waits : Passing A R K → A → R → Passing A R K → Type 0
  Waits p ask reply q = (place often : ℕ) × (q ≡ record p { mine = p.mine ++ placed place ask reply ∷ []; met = p.met + often })

  -- nothing is added, and once another was met
  abbrev pub met_once : Passing A R K → Passing A R K
  met_once p = record p { met = p.met + 1 }

  -- so many entries of its own are added
  abbrev pub Grows : ℕ → Passing A R K → Passing A R K → Type 0
  Grows n p q = (more : List (Placed A R)) × (length more ≡ n) × (q ≡ record p { mine = p.mine ++ more; met = q.met })

  -- a pass that gave away its greatest spare number
  abbrev pub giver : Passing A R K → Passing A R K
  giver p = record p { spare = p.spare - 1 }

  -- a new pass of this number
  abbrev pub given_as : ℕ → Passing A R K → Passing A R K
  given_as number p = record { turn = p.turn; number = number; spare = 0; mine = []; met = 0; joined = [] }

  -- the pass that has the number that was given away
  abbrev pub given : Passing A R K → Passing A R K
  given p = given_as p.spare p

  -- a pass that took in another
  abbrev pub joined_with : Passing A R K → Passing A R K → Passing A R K
  joined_with p q = record p { joined = p.joined ++ held q }

-- ---- the pass as its fields have it

module _ {A R K S : Type 0} where
  abbrev pub passing : Turning K → View A R K S → Passing A R K
  passing turn v = record {
    turn = turn;
    number = own_number v.parts;
    spare = v.spare;
    mine = own_entries v.parts;
    met = v.met;
    joined = others_of v.parts;
  }

  abbrev pub IsPass : {B : Type 0} → ℕ → ℕ → Turning K → TableId → Me B (View A R K S) → Type 0
  IsPass number spare turn table m =
      (number ≡ own_number m.0.parts) × (spare ≡ m.0.spare) × (table ≡ turn.id) × (m.0.kept ≡ Some turn.kept) × (m.0.passes ≡ turn.passes) × IsIdle m
