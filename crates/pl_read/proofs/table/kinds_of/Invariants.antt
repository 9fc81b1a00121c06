use Rattle.std.proofs.Common.{◌≡◌, [], drop, map}
use Rattle.serde_json.specs.View.{items_view}
use Rattle.pl_read.specs.Paths.{path_of}
use Rattle.pl_read.specs.Tables.{columns_from}
use Rattle.pl_read.proofs.table.kinds_of.Given as goal

-- what is left, behind what was read, is all
abbrev pub invariant-loop-at : goal.invariant-loop-at
invariant-loop-at l =
    columns_from (map (λ name. name.now) l.names.items) l.kinds (path_of l.place) l.at (items_view (drop l.at l.columns))
    ≡ columns_from [] [] (path_of l.place) 0 (items_view l.columns)
