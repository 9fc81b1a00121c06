-- What two operands compare to in a row.
use Rattle.std.specs.Prelude.{Bool, not, List, Option, Some, None}
use Rattle.std.specs.declared.cmp.Ordering.{Ordering}
use Rattle.std.specs.Ordering.{nat_cmp, int_cmp, is_eq, is_lt, is_le, is_gt, is_ge}
use Rattle.std.specs.Cmp.Lexicographic.{slice_cmp}
use Rattle.ic_row.specs.declared.value.Value.{Value}
use Rattle.ic_row.specs.declared.value.Value.TheVariants as value
use Rattle.ic_row.specs.Values.{column}
use Rattle.pl_expr.specs.declared.expr.Operand.{Operand}
use Rattle.pl_expr.specs.declared.expr.Operand.TheVariants.{Col, Int, Chars, Null}
use Rattle.pl_expr.specs.declared.expr.CompareOp.{CompareOp}
use Rattle.pl_expr.specs.declared.expr.CompareOp.TheVariants.{Eq, Ne, Lt, Le, Gt, Ge}
use Rattle.pl_expr.specs.declared.truths.Truth.{Truth}
use Rattle.pl_expr.specs.declared.truths.Truth.TheVariants.{Unknown}
use Rattle.pl_expr.specs.Truths.{known}

-- a column's value in the row, or the literal itself
abbrev pub value_of : List Value → Operand → Value
value_of row (Col c) = column row c
value_of row (Int n) = value.Int n
value_of row (Chars text) = value.Chars text
value_of row Null = value.Null

-- numbers by size, whatever their width, and texts by bytes; there is no order if a side is null
abbrev pub order_of : Value → Value → Option Ordering
order_of (value.Int a) (value.Int b) = Some (int_cmp a b)
order_of (value.Int a) (value.Wide b) = Some (int_cmp a b)
order_of (value.Wide a) (value.Int b) = Some (int_cmp a b)
order_of (value.Wide a) (value.Wide b) = Some (int_cmp a b)
order_of (value.Chars a) (value.Chars b) = Some (slice_cmp nat_cmp a b)
order_of _ _ = None

-- the orders that a comparison is true of
abbrev pub allows : CompareOp → Ordering → Bool
allows Eq order = is_eq order
allows Ne order = not (is_eq order)
allows Lt order = is_lt order
allows Le order = is_le order
allows Gt order = is_gt order
allows Ge order = is_ge order

-- a comparison with a null is unknown
abbrev pub compared : CompareOp → Option Ordering → Truth
compared op None = Unknown
compared op (Some order) = known (allows op order)
