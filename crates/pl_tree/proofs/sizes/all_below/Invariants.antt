use Rattle.std.proofs.Common.{◌<◌, drop}
use Rattle.std.specs.Prelude.{◌↔◌}
use Rattle.std.specs.List.{AllByRecursion}
use Rattle.pl_tree.proofs.sizes.all_below.Given as goal

abbrev pub invariant-loop-column : goal.invariant-loop-column
invariant-loop-column l = AllByRecursion (λ c. c < l.width) (drop l.column-index l.columns) ↔ AllByRecursion (λ c. c < l.width) l.columns
