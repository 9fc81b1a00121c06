-- Asks to a machine, with their replies.
use Rattle.std.specs.Prelude.{◌≡◌, List, [], ◌∷◌, ◌++◌}
use Rattle.ic_turn.specs.declared.entry.Entry.{Entry}

module _ {A R : Type 0} where
  -- the entries of asks and replies that stand in one order
  abbrev pub entries_of : List A → List R → List (Entry A R)
  entries_of [] replies = []
  entries_of (ask ∷ asks) [] = []
  entries_of (ask ∷ asks) (reply ∷ replies) = record { ask = ask; reply = reply } ∷ entries_of asks replies

  -- P holds of each entry and the entries before it
  abbrev pub Every : (List (Entry A R) → Entry A R → Type 0) → List (Entry A R) → Type 0
  Every P entries = (before : List (Entry A R)) (e : Entry A R) (after : List (Entry A R)) → entries ≡ before ++ e ∷ after → P before e

  -- For every list for which a machine stood before, it stands now for that list with these entries added. What it
  -- stands for is a set of lists, before and now.
  abbrev pub StandsWith : (List (Entry A R) → Type 0) → (List (Entry A R) → Type 0) → List (Entry A R) → Type 0
  StandsWith before now more = (entries : List (Entry A R)) → before entries → now (entries ++ more)
