-- The partial whose groups a final makes whole.
use Rattle.std.specs.Prelude.{ℕ, List, Option, Some, None}
use Rattle.pl_tree.specs.declared.node.Call.{Call}
use Rattle.pl_tree.specs.declared.partials.Groups.{Groups as Held}
use Rattle.pl_tree.specs.Trees.{Tree, Partial, Gather, Redistribute, Broadcast}

-- what a final takes from its partial
pub record Groups : Type 0 where
  pub group : List ℕ
  pub calls : List Call

-- of a partial itself
abbrev pub partial_at : Tree → Option Groups
partial_at (Partial g cs c) = Some (record { group = g; calls = cs })
partial_at _ = None

-- of a final's child: a partial, or a motion over one
abbrev pub partial_under : Tree → Option Groups
partial_under (Partial g cs c) = Some (record { group = g; calls = cs })
partial_under (Gather o c) = partial_at c
partial_under (Redistribute ks c) = partial_at c
partial_under (Broadcast c) = partial_at c
partial_under _ = None

-- group and calls that lie in memory, without their place in memory
abbrev pub seen : Held → Groups
seen held = record { group = held.group.now; calls = held.calls.now }
