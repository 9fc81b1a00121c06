use Rattle.std.proofs.Common.{◌≡◌, drop}
use Rattle.std.specs.Prelude.{◌==◌}
use Rattle.std.specs.List.{position_from}
use Rattle.pl_tree.proofs.loci.place_of.Given as goal

abbrev pub invariant-loop-other : goal.invariant-loop-other
invariant-loop-other l =
    (position_from (λ c. c == l.column) l.place (drop l.other-index l.columns) ≡ position_from (λ c. c == l.column) 0 l.columns) × (l.place ≡ l.other-index)
