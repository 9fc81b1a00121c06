-- Which sender of a motion a take from any served last, after one more entry.
use Rattle.std.specs.Prelude.{ℕ, ℤ, List, [], ◌∷◌, ◌++◌, Option, Some, None}
use Rattle.ic_law.specs.declared.history.Entry.{Entry}
use Rattle.ic_law.specs.Arriving.{IsLiveQuery, IsOld, IsServed, LastServed}
use Rattle.ic_hub_laws.specs.Laws.{AreAhead}

-- an entry that serves no sender of the motion leaves the one served last
abbrev pub ServedBefore : Type 0
ServedBefore = (query motion : ℕ) (h : List Entry) (e : Entry) (last : Option ℤ) → ((from : ℤ) → IsServed query motion e from → ⊥) → LastServed query motion h last → LastServed query motion (h ++ e ∷ []) last

-- one that serves a sender has served it last
abbrev pub ServedNow : Type 0
ServedNow = (query motion : ℕ) (h : List Entry) (e : Entry) (from : ℤ) → IsServed query motion e from → LastServed query motion (h ++ e ∷ []) (Some from)

-- of a query that was never begun no sender was served
abbrev pub ServedNobody : Type 0
ServedNobody = (query motion : ℕ) (h : List Entry) → AreAhead h → (IsLiveQuery query h → ⊥) → (IsOld query h → ⊥) → LastServed query motion h None
