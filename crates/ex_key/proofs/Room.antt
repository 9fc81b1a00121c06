-- Values that have room for their numbers.
use Rattle.std.proofs.Common.{List, [], ◌∷◌, ◌++◌}
use Rattle.std.specs.List.{AllByRecursion}
use Rattle.ic_row.specs.declared.value.Value.{Value}
use Rattle.pl_ops.specs.Rows.{Line}
use Rattle.pl_ops.specs.Overflow.{HasRoom}

pub one_more : (xs : Line) (v : Value) → AllByRecursion HasRoom xs → HasRoom v → AllByRecursion HasRoom (xs ++ v ∷ [])
one_more [] v h k = (k, tt)
one_more (x ∷ xs) v h k = (h.0, one_more xs v h.1 k)
