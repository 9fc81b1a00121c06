use Rattle.std.proofs.Common.{◌≡◌, map, take}
use Rattle.pl_read.specs.declared.table.Table.{Table}
use Rattle.icq_top.proofs.judging.schemas_of.Given as goal

abbrev pub invariant-loop-table : goal.invariant-loop-table
invariant-loop-table l = l.schemas ≡ map (λ (table : Table). table.schema) (take l.table-index l.tables)
