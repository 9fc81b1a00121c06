-- The rule of a turn's table. Word 0 is the ticket to draw next, word 1 the number of entries, and slot 0 has the machine.
use Rattle.std.specs.Prelude.{◌≡◌, ℕ, ◌+◌, ◌<◌, ◌≤◌, List, [], ◌∷◌, length, Option, Some}
use mathlib.Core.Option.{some}
use lib.ListN.{get_elem?}
use Rattle.atomic_table.specs.Table.{State}
use Rattle.ic_turn.specs.declared.entry.Entry.{Entry}
use Rattle.ic_turn.specs.declared.view.Bench.{Bench}
use Rattle.ic_turn.specs.declared.view.Numbered.{Numbered}
use Rattle.ic_turn.specs.declared.view.Part.{Part}
use Rattle.ic_turn.specs.declared.view.View.{View}
use Rattle.ic_turn.specs.declared.view.Stage.{Stage}
use Rattle.ic_turn.specs.declared.view.Stage.TheVariants.{Idle, Noted, Holding, Ended}
use Rattle.ic_turn.specs.Parts.{unnumbered, part_of, HasAll, Distinct, AreBelow}
use Rattle.ic_turn.specs.Views.{held_of}

-- `owner` says of each number which seat has it
module _ {A R : Type 0} (passes : ℕ) (log : List (Numbered A R)) (owner : ℕ → ℕ) (seat : ℕ) where
  abbrev pub Owns : Part A R → Type 0
  Owns p = (p.number < passes) × (owner p.number ≡ seat) × (p.entries ≡ part_of p.number log)

  abbrev pub OwnsEach : List (Part A R) → Type 0
  OwnsEach ps = (i : ℕ) (p : Part A R) → get_elem? ps i ≡ some p → Owns p

-- What a stage says of the list, if `busy` seats hold a ticket (none or one), and `who` is the last that drew one.
-- A noted number is exact if its seat holds all numbers, since then nobody else can call.
module _ {A R S : Type 0} (stands : S → List (Entry A R) → Type 0) (passes : ℕ) (log : List (Numbered A R)) (busy who seat : ℕ) (ps : List (Part A R)) where
  abbrev pub KnowsStage : Stage A R S → Type 0
  KnowsStage Idle = Unit {0}
  KnowsStage (Noted n) = (n ≤ length log) × (HasAll passes ps → n ≡ length log)
  KnowsStage (Holding t s) = (busy ≡ 1) × (seat ≡ who) × (t ≡ length log) × stands s (unnumbered log) × (t + 1 < 18446744073709551616)
  KnowsStage (Ended l) = HasAll passes ps × (l ≡ log)

module _ {A R K S : Type 0} where
  abbrev pub KnowsAbout : K → ℕ → View A R K S → Type 0
  KnowsAbout kept passes v = 0 < length v.parts → (v.kept ≡ Some kept) × (v.passes ≡ passes)

-- there is one list of entries, for which the machine stands, and each part that a view has is that of the list
pub record IsKept {M A R K S : Type 0} (kept_of : M → K) (state_of : M → S) (stands : K → S → List (Entry A R) → Type 0) (kept : K) (passes : ℕ) (s : State (Option (Bench M A R)) (View A R K S)) : Type 0 where
  pub log : List (Numbered A R)
  pub busy : ℕ
  pub who : ℕ
  pub owner : ℕ → ℕ
  pub words : s.words ≡ (length log + busy) ∷ length log ∷ []
  pub few : busy ≤ 1
  pub below : AreBelow passes log
  pub at_home : busy ≡ 0 → (b : Bench M A R) × (get_elem? s.homes 0 ≡ some (some (Some b))) × stands kept (state_of b.machine) (unnumbered log) × (kept_of b.machine ≡ kept)
  pub held : busy ≡ 1 → (v : View A R K S) × (t : ℕ) × (x : S) × (get_elem? s.views who ≡ some v) × (v.stage ≡ Holding t x) × (0 < length v.parts)
  pub each_stage : (j : ℕ) (v : View A R K S) → get_elem? s.views j ≡ some v → KnowsStage (stands kept) passes log busy who j (held_of v) v.stage
  pub each_part : (j : ℕ) (v : View A R K S) → get_elem? s.views j ≡ some v → OwnsEach passes log owner j (held_of v) × Distinct (held_of v)
  pub each_about : (j : ℕ) (v : View A R K S) → get_elem? s.views j ≡ some v → KnowsAbout kept passes v
