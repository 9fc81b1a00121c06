use Rattle.std.proofs.Common.{◌≡◌}
use Rattle.pl_ops.specs.Groups.{columns_from}
use Rattle.ex_agg.proofs.agg.first_columns.Given as goal

abbrev pub invariant-loop-place : goal.invariant-loop-place
invariant-loop-place l = l.columns.items ≡ columns_from 0 l.place
