-- Which receivers get a row of a motion.
use Rattle.std.specs.Prelude.{ℕ, ◌==◌, Bool, true, List, filter}
use Rattle.ic_row.specs.Hash.{segment_for}
use Rattle.pl_tree.specs.Trees.{Tree, Redistribute}
use Rattle.pl_ops.specs.Rows.{Line}

-- how a motion routes its rows
pub data Route : Type 0 where
  ToAll : Route
  ToHashed : List ℕ → Route

-- a gather has one receiver, so its rows go to all of them, as a broadcast's do
abbrev pub route_of : Tree → Route
route_of (Redistribute keys c) = ToHashed keys
route_of _ = ToAll

-- whether the receiver at this place gets the row, of so many receivers; the receiver at place i is segment i
abbrev pub is_routed : Route → ℕ → ℕ → Line → Bool
is_routed ToAll receivers place row = true
is_routed (ToHashed keys) receivers place row = segment_for keys row receivers == place

-- the rows that the receiver at this place gets, in the order in which they were sent
unfoldable pub routed : Route → ℕ → ℕ → List Line → List Line
routed route receivers place rows = filter (is_routed route receivers place) rows
