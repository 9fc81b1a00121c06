use Rattle.std.proofs.Common.{◌≡◌, ◌+◌, drop}
use Rattle.serde_json.specs.View.{items_view}
use Rattle.pl_read.specs.Paths.{path_of}
use Rattle.pl_read.specs.Exprs.{parts_from}
use Rattle.pl_read.proofs.SoFar.{after}
use Rattle.pl_read.proofs.expr.+expr.Given as goal

-- what was read, in front of what is left, is all
abbrev pub invariant-parts_at-loop-at : goal.invariant-parts_at-loop-at
invariant-parts_at-loop-at l =
    after l.exprs (parts_from (path_of l.place) (l.at + 1) (items_view (drop l.at l.parts)))
    ≡ parts_from (path_of l.place) 1 (items_view l.parts)
