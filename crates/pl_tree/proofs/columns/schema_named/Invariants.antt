use Rattle.std.proofs.Common.{◌≡◌, drop}
use Rattle.pl_tree.specs.Columns as spec
use Rattle.pl_tree.proofs.columns.schema_named.Given as goal

abbrev pub invariant-loop-schema : goal.invariant-loop-schema
invariant-loop-schema l = spec.schema_named l.name (drop l.schema-index l.schemas) ≡ spec.schema_named l.name l.schemas
