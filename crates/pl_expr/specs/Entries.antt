-- The expressions and operands of a predicate, in preorder.
use Rattle.std.specs.Prelude.{List, [], ◌∷◌, ◌++◌}
use Rattle.pl_expr.specs.declared.expr.Operand.{Operand}
use Rattle.pl_expr.specs.declared.expr.Expr.{Expr, fold-Expr}
use Rattle.pl_expr.specs.declared.expr.Expr.TheOpen.{Expr-F}

-- a comparison of two operands, any other expression, or an operand
pub data Entry : Type 0 where
  Comparison : Operand → Operand → Entry
  Other : Entry
  Read : Operand → Entry

-- several lists, one after another
abbrev pub in_turn : List (List Entry) → List Entry
in_turn [] = []
in_turn (x ∷ xs) = x ++ in_turn xs

-- one level, with the entries of each part in its place
abbrev pub entries_step : Expr-F (List Entry) → List Entry
entries_step (Expr-F.Compare op left right) = Comparison left right ∷ Read left ∷ Read right ∷ []
entries_step (Expr-F.And parts) = Other ∷ in_turn parts
entries_step (Expr-F.Or parts) = Other ∷ in_turn parts
entries_step (Expr-F.Not part) = Other ∷ part
entries_step (Expr-F.IsNull x) = Other ∷ Read x ∷ []

-- an expression stands before its parts, and these from left to right
abbrev pub entries_of : Expr → List Entry
entries_of = fold-Expr (List Entry) entries_step
