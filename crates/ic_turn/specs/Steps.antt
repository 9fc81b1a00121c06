-- What each step on a turn's table tells. An exchange of the slot changes no view.
use Rattle.std.specs.Prelude.{◌≡◌, ◌≢◌, ℕ, ◌+◌, ◌<◌, List, [], ◌∷◌, length, Option, Some}
use Rattle.std.specs.declared.snapshot.Snapshot.{Snapshot}
use Rattle.atomic_table.specs.Table.{Me, Step}
use Rattle.atomic_table.specs.declared.shared.Seat.{Seat}
use Rattle.ic_turn.specs.declared.entry.Entry.{Entry}
use Rattle.ic_turn.specs.declared.view.Bench.{Bench}
use Rattle.ic_turn.specs.declared.view.Numbered.{Numbered}
use Rattle.ic_turn.specs.declared.view.View.{View}
use Rattle.ic_turn.specs.declared.view.Stage.TheVariants.{Idle, Noted, Holding, Ended}
use Rattle.ic_turn.specs.Parts.{placed, unnumbered, HasAll, total, AreBelow, ArePartsOf}
use Rattle.ic_turn.specs.Views.{with_own, held_of, list_of}

module _ {M A R : Type 0} where
  -- the last ask and reply of the machine on the bench
  abbrev pub IsLast : Bench M A R → A → R → Type 0
  IsLast b a r = (l : Snapshot A × Snapshot R) × (b.last ≡ Some l) × (l.0.value ≡ a) × (l.1.value ≡ r)

module _ {M A R K S : Type 0} where
  -- a load of the number of entries: it is noted, or, if it is the greatest number of all, it was met
  abbrev pub noted : Step (Option (Bench M A R)) → Me (Option (Bench M A R)) (View A R K S) → ℕ → Me (Option (Bench M A R)) (View A R K S) → Type 0
  noted st m n m' = (m'.1 ≡ m.1) × (n ≡ 18446744073709551615 → m'.0 ≡ record m.0 { met = m.0.met + 1; stage = Idle }) × (n ≢ 18446744073709551615 → m'.0 ≡ record m.0 { stage = Noted n })
      × (0 < length m.0.parts → HasAll m.0.passes (held_of m.0) → total (held_of m.0) ≡ n)

  -- an exchange of the ticket: the seat has it and the machine, or another's ticket was met
  abbrev pub drew : (M → K) → (M → S) → Step (Option (Bench M A R)) → Me (Option (Bench M A R)) (View A R K S) → ℕ → Me (Option (Bench M A R)) (View A R K S) → Type 0
  drew kept_of state_of st m n m' =
      (n ≡ st.first → (b : Bench M A R) × (m'.0 ≡ record m.0 { stage = Holding st.first (state_of b.machine) }) × (m'.1 ≡ (0, Some b) ∷ []) × (m.0.kept ≡ Some (kept_of b.machine)))
      × (n ≢ st.first → (m'.0 ≡ record m.0 { met = m.0.met + 1; stage = Idle }) × (m'.1 ≡ []) × (¬ HasAll m.0.passes (held_of m.0)))

  -- one more entry: it is the seat's own, and its place is the ticket
  abbrev pub served : Step (Option (Bench M A R)) → Me (Option (Bench M A R)) (View A R K S) → ℕ → Me (Option (Bench M A R)) (View A R K S) → Type 0
  served st m n m' = (t : ℕ) (x : S) → m.0.stage ≡ Holding t x → (b : Bench M A R) (a : A) (r : R) → m.1 ≡ (0, Some b) ∷ [] → IsLast b a r
      → (m'.0 ≡ record m.0 { stage = Idle; parts = with_own (placed t a r) m.0.parts }) × (m'.1 ≡ [])

  -- a load of the number of entries by who holds all numbers: it has the whole list
  abbrev pub ended : (K → List (Entry A R) → Type 0) → Step (Option (Bench M A R)) → Me (Option (Bench M A R)) (View A R K S) → ℕ → Me (Option (Bench M A R)) (View A R K S) → Type 0
  ended lawful st m n m' = HasAll m.0.passes (held_of m.0) → 0 < length m.0.parts
      → (log : List (Numbered A R)) × (kept : K) × (m'.0 ≡ record m.0 { stage = Ended log }) × (m'.1 ≡ m.1) × (m.0.kept ≡ Some kept) × lawful kept (unnumbered log)
      × AreBelow m.0.passes log × ArePartsOf log (held_of m.0) × (length log ≡ total (held_of m.0))

  -- the seat has drawn a ticket, and has the machine
  abbrev pub HasDrawn : (M → K) → (M → S) → Me (Option (Bench M A R)) (View A R K S) → Type 0
  HasDrawn kept_of state_of m = (t : ℕ) × (b : Bench M A R) × (m.0.stage ≡ Holding t (state_of b.machine)) × (m.1 ≡ (0, Some b) ∷ []) × (m.0.kept ≡ Some (kept_of b.machine)) × (0 < length m.0.parts)

  abbrev pub IsSameSeat : Seat (Option (Bench M A R)) (View A R K S) → Seat (Option (Bench M A R)) (View A R K S) → Type 0
  IsSameSeat s t = (t.table_id ≡ s.table_id) × (t.id ≡ s.id)

module _ {A R K S : Type 0} where
  -- an entry was added to the seat's own
  abbrev pub Called : View A R K S → A → R → View A R K S → Type 0
  Called v a r w = (place : ℕ) × (w ≡ record v { stage = Idle; met = w.met; parts = with_own (placed place a r) v.parts })

  -- nothing was added, and another's ticket, or the end of all numbers, was met
  abbrev pub Met : View A R K S → View A R K S → Type 0
  Met v w = w ≡ record v { stage = Idle; met = v.met + 1 }

  -- the whole list, from the seat that held all numbers
  abbrev pub IsWhole : (K → List (Entry A R) → Type 0) → View A R K S → View A R K S → Type 0
  IsWhole lawful v w =
      (w ≡ record v { stage = Ended (list_of w.stage) }) × AreBelow v.passes (list_of w.stage) × ArePartsOf (list_of w.stage) (held_of v)
      × ((kept : K) → v.kept ≡ Some kept → lawful kept (unnumbered (list_of w.stage))) × (length (list_of w.stage) ≡ total (held_of v))
