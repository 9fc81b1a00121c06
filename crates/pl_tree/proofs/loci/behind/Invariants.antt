use Rattle.std.proofs.Common.{◌≡◌, ◌+◌, map, take}
use Rattle.pl_tree.proofs.loci.behind.Given as goal

abbrev pub invariant-loop-column : goal.invariant-loop-column
invariant-loop-column l = l.moved ≡ map (λ c. l.width + c) (take l.column-index l.columns)
