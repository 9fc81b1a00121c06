use Rattle.std.proofs.Common.{◌≡◌, drop}
use Rattle.serde_json.specs.View.{items_view}
use Rattle.pl_read.specs.Paths.{path_of}
use Rattle.pl_read.specs.Values.{each}
use Rattle.pl_read.proofs.SoFar.{after}
use Rattle.pl_read.proofs.list.list_at.Given as goal

-- what was read, in front of what is left, is all
abbrev pub invariant-loop-at : goal.invariant-loop-at
invariant-loop-at g l =
    after l.elements (each g.T.Element.reading (path_of l.place) l.at (items_view (drop l.at l.values)))
    ≡ each g.T.Element.reading (path_of l.place) 0 (items_view l.values)
