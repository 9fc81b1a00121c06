use Rattle.ic_row.proofs.Left.{left_within}
use Rattle.ic_row.proofs.reading.placed.Goals as goal

pub overflow_sub-result : goal.overflow_sub-result
overflow_sub-result c = left_within c.args.bytes.now c.in-Err-Left.left (rw c.in-Err-Left.field-0-is at c.in-Err-Left.ensures)
