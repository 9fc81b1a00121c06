use Rattle.std.proofs.Common.{drop}
use Rattle.std.specs.Prelude.{◌↔◌}
use Rattle.pl_tree.specs.Sizes.{AreTables}
use Rattle.pl_tree.proofs.sizes.all_fit.Given as goal

abbrev pub invariant-loop-schema : goal.invariant-loop-schema
invariant-loop-schema l = AreTables (drop l.schema-index l.schemas) ↔ AreTables l.schemas
