-- What a predicate is of a row, by cases of the predicate.
use Rattle.std.specs.Prelude.{Bool, List}
use Rattle.ic_row.specs.declared.value.Value.{Value}
use Rattle.ic_row.specs.Values.{is_null}
use Rattle.pl_expr.specs.declared.expr.Expr.{Expr, fold-Expr}
use Rattle.pl_expr.specs.declared.expr.Expr.TheOpen.{Expr-F}
use Rattle.pl_expr.specs.declared.truths.Truth.{Truth}
use Rattle.pl_expr.specs.Truths.{known, is_true, negation, all_of, any_of}
use Rattle.pl_expr.specs.Comparing.{value_of, order_of, compared}

-- one level, with the truth value of each part in its place
abbrev pub truth_step : List Value → Expr-F Truth → Truth
truth_step row (Expr-F.Compare op left right) = compared op (order_of (value_of row left) (value_of row right))
truth_step row (Expr-F.And parts) = all_of parts
truth_step row (Expr-F.Or parts) = any_of parts
truth_step row (Expr-F.Not part) = negation part
truth_step row (Expr-F.IsNull x) = known (is_null (value_of row x))

abbrev pub truth_of : List Value → Expr → Truth
truth_of row = fold-Expr Truth (truth_step row)

-- a filter keeps the rows of which its predicate is true; unknown isn't true
abbrev pub keeps : Expr → List Value → Bool
keeps expr row = is_true (truth_of row expr)
