use Rattle.std.proofs.Common.{◌≡◌, take}
use Rattle.std.specs.List.{AllByRecursion}
use Rattle.ic_row.specs.Values.{key_of}
use Rattle.pl_ops.specs.Overflow.{HasRoom}
use Rattle.ex_key.proofs.key.RowKey.of.Given as goal

abbrev pub invariant-loop-place : goal.invariant-loop-place
invariant-loop-place l = (l.values.items ≡ key_of (take l.place-index l.columns) l.row) × AllByRecursion HasRoom l.values.items
