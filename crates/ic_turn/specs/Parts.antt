-- The list of a turn's entries, and the parts of it that have one number.
use Rattle.std.specs.Prelude.{◌≡◌, ℕ, zero, suc, ◌+◌, ◌<◌, List, [], ◌∷◌, ◌++◌, map, length, if◌then◌else◌, ◌==◌}
use mathlib.Core.Option.{some}
use lib.ListN.{get_elem?}
use Rattle.ic_turn.specs.declared.entry.Entry.{Entry}
use Rattle.ic_turn.specs.declared.view.Placed.{Placed}
use Rattle.ic_turn.specs.declared.view.Numbered.{Numbered}
use Rattle.ic_turn.specs.declared.view.Part.{Part}

module _ {A R : Type 0} where
  abbrev pub placed : ℕ → A → R → Placed A R
  placed place ask reply = record { place = place; entry = record { ask = ask; reply = reply } }

  abbrev pub numbered : ℕ → A → R → Numbered A R
  numbered number ask reply = record { number = number; entry = record { ask = ask; reply = reply } }

  -- the entries of the list, without the numbers
  abbrev pub unnumbered : List (Numbered A R) → List (Entry A R)
  unnumbered list = map (λ (e : Numbered A R). e.entry) list

  -- the entries with the number k and their places, if the list begins at the place i
  abbrev pub part_from : ℕ → ℕ → List (Numbered A R) → List (Placed A R)
  part_from i k [] = []
  part_from i k (e ∷ es) = (if e.number == k then placed i e.entry.ask e.entry.reply ∷ [] else []) ++ part_from (suc i) k es

  -- the entries with the number k and their places
  abbrev pub part_of : ℕ → List (Numbered A R) → List (Placed A R)
  part_of k list = part_from 0 k list

  -- the entries with the number k
  abbrev pub entries_by : ℕ → List (Numbered A R) → List (Entry A R)
  entries_by k list = map (λ (c : Placed A R). c.entry) (part_of k list)

  -- the part of a number that has no entries
  abbrev pub blank : ℕ → Part A R
  blank k = record { number = k; entries = [] }

  -- the parts of the numbers from n down to 1, without entries
  abbrev pub blank_down : ℕ → List (Part A R)
  blank_down zero = []
  blank_down (suc n) = blank (suc n) ∷ blank_down n

  -- the part of the number k is among these
  abbrev pub Has : ℕ → List (Part A R) → Type 0
  Has k parts = (i : ℕ) × (p : Part A R) × (get_elem? parts i ≡ some p) × (p.number ≡ k)

  -- the parts of all numbers below n are among these
  abbrev pub HasAll : ℕ → List (Part A R) → Type 0
  HasAll n parts = (k : ℕ) → k < n → Has k parts

  -- no two have one number
  abbrev pub Distinct : List (Part A R) → Type 0
  Distinct [] = Unit {0}
  Distinct (p ∷ ps) = (¬ Has p.number ps) × Distinct ps

  -- how many entries they have
  abbrev pub total : List (Part A R) → ℕ
  total [] = 0
  total (p ∷ ps) = length p.entries + total ps

  -- the number of each entry is below n
  abbrev pub AreBelow : ℕ → List (Numbered A R) → Type 0
  AreBelow n list = (i : ℕ) (e : Numbered A R) → get_elem? list i ≡ some e → e.number < n

  -- each of these parts has just the entries that the list has of its number, in order
  abbrev pub ArePartsOf : List (Numbered A R) → List (Part A R) → Type 0
  ArePartsOf list parts = (i : ℕ) (p : Part A R) → get_elem? parts i ≡ some p → p.entries ≡ part_of p.number list
