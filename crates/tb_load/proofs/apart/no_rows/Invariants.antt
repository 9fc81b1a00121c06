use Rattle.std.proofs.Common.{◌≡◌, [], replicate}
use Rattle.tb_load.proofs.apart.no_rows.Given as goal

abbrev pub invariant-loop : goal.invariant-loop
invariant-loop l = l.parts.items ≡ replicate l.counter []
